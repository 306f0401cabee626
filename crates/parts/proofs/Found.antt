-- A tag is found exactly where it is spelled.
use Rattle.std.proofs.Common.{◌≡◌, ℕ, suc, ◌+◌, ◌<◌, ◌≤◌, Bool, true, false, cond, not, ◌&&◌, ◌||◌, eqb, List, [], ◌∷◌, ◌++◌, length, get_or, take, drop, Some, None, codes, Option, sym, refl, ap, ◌∙◌, subst, ⊎_elim, append_assoc, arith}
use Rattle.std.specs.List.{prefix_len, AllByRecursion}
use Rattle.std.specs.Str.{bytes_eq}
use Rattle.std.proofs.lemmas.Slice.Eq.{bytes_eq-Decides}
use Rattle.std.proofs.lemmas.List.{drop-drop, take-append-drop, length-append, take_all, take_at, drop_at, get_or-append-add, drop_more, get_or_past, length-take-le}
use Rattle.std.proofs.lemmas.List.Sums.{prefix_len-le-length}
use Rattle.std.proofs.lemmas.Bool.{cond-true, cond-false, cases_Bool, eqb-true, cases_lt, and_parts}
use Rattle.texts.specs.Bytes.{is_blank}
use Rattle.texts.proofs.Fronts.{all_leading, leading_none, leading_stops}
use Rattle.parts.specs.declared.name.Name.{Name}
use Rattle.parts.specs.declared.name.Name.TheVariants.{MethodCall, MethodResponse, MethodName, Params, Param, Value, Fault, Struct, Member, MemberName, Array, Data, Int, I4, Boolean, String, Double, DateTime, Base64}
use Rattle.parts.specs.declared.tag.Tag.{Tag}
use Rattle.parts.specs.declared.tag.Tag.TheVariants.{Open, Close}
use Rattle.parts.specs.declared.tag.Spelling.{Spelling}
use Rattle.parts.specs.Names.{spelled, likely}
use Rattle.parts.specs.Tags.{named, in_name, name_len, name_end, AtFront, spelling, close_by, open_by, close_tag, open_tag, tag_of}
use Rattle.parts.specs.Cutting.{AreBlank, Spells, opens, opens_and_closes, closes}
use Rattle.parts.proofs.Spelled.{likely_spelled}

-- a name has no byte that ends a name
name_leads : (n : Name) → prefix_len in_name (spelled n) ≡ length (spelled n)
name_leads MethodCall = refl
name_leads MethodResponse = refl
name_leads MethodName = refl
name_leads Params = refl
name_leads Param = refl
name_leads Value = refl
name_leads Fault = refl
name_leads Struct = refl
name_leads Member = refl
name_leads MemberName = refl
name_leads Array = refl
name_leads Data = refl
name_leads Int = refl
name_leads I4 = refl
name_leads Boolean = refl
name_leads String = refl
name_leads Double = refl
name_leads DateTime = refl
name_leads Base64 = refl

name_all : (n : Name) → AllByRecursion (λ b. in_name b ≡ true) (spelled n)
name_all n =
    let whole : length (spelled n) ≤ prefix_len in_name (spelled n) = omega (arith, name_leads n) in
    subst (AllByRecursion (λ b. in_name b ≡ true)) (take_all (prefix_len in_name (spelled n)) (spelled n) whole) (all_leading in_name (spelled n))

not_slash : (n : Name) (bs : List ℕ) → eqb (get_or (spelled n ++ bs) 0 0) 47 ≡ false
not_slash MethodCall bs = refl
not_slash MethodResponse bs = refl
not_slash MethodName bs = refl
not_slash Params bs = refl
not_slash Param bs = refl
not_slash Value bs = refl
not_slash Fault bs = refl
not_slash Struct bs = refl
not_slash Member bs = refl
not_slash MemberName bs = refl
not_slash Array bs = refl
not_slash Data bs = refl
not_slash Int bs = refl
not_slash I4 bs = refl
not_slash Boolean bs = refl
not_slash String bs = refl
not_slash Double bs = refl
not_slash DateTime bs = refl
not_slash Base64 bs = refl

-- a name is what its spelling names, and nothing else names it
named_spelled : (n : Name) → named (spelled n) ≡ Some n
unfolding named
named_spelled n =
    ap (λ m. cond (bytes_eq (spelled n) (spelled m)) (Some m) None) (likely_spelled n)
    ∙ cond-true (bytes_eq (spelled n) (spelled n)) (Some n) None ((bytes_eq-Decides (spelled n) (spelled n)).1 refl)

spelled_named : (bs : List ℕ) (n : Name) → named bs ≡ Some n → bs ≡ spelled n
unfolding named
spelled_named bs n h = ⊎_elim
    (λ same.
    let it : ◌≡◌ {A = Option Name} (Some (likely bs)) (Some n) = sym (cond-true (bytes_eq bs (spelled (likely bs))) (Some (likely bs)) None same) ∙ h in
    let name : likely bs ≡ n = cc in
    (bytes_eq-Decides bs (spelled (likely bs))).0 same ∙ ap spelled name)
    (λ other.
    let none : ◌≡◌ {A = Option Name} None (Some n) = sym (cond-false (bytes_eq bs (spelled (likely bs))) (Some (likely bs)) None other) ∙ h in
    absurd (let z : ◌≡◌ {A = ℕ} 0 1 = cc in omega arith))
    (cases_Bool (bytes_eq bs (spelled (likely bs))))

-- a name, blanks, and a byte that is neither
module _ (n : Name) (blanks : List ℕ) (h : AreBlank blanks) (c : ℕ) (bs : List ℕ) (cn : in_name c ≡ false) (cb : is_blank c ≡ false) where
  name_ends : (l : List ℕ) → AreBlank l → prefix_len in_name (l ++ (c ∷ bs)) ≡ 0
  name_ends [] k = leading_none in_name (c ∷ bs) cn
  name_ends (b ∷ l) k = leading_none in_name (b ∷ (l ++ (c ∷ bs))) (ap (λ v. not (v || (eqb b 47 || (eqb b 62 || eqb b 60)))) k.0)

  name_behind : (w : List ℕ) → AllByRecursion (λ b. in_name b ≡ true) w → prefix_len in_name (w ++ (blanks ++ (c ∷ bs))) ≡ length w
  name_behind [] k = name_ends blanks h
  name_behind (b ∷ w) k = cond-true (in_name b) _ _ k.0 ∙ omega (arith, name_behind w k.1)

  at_len : name_len (spelled n ++ (blanks ++ (c ∷ bs))) ≡ length (spelled n)
  at_len = name_behind (spelled n) (name_all n)

  at_name : take (name_len (spelled n ++ (blanks ++ (c ∷ bs)))) (spelled n ++ (blanks ++ (c ∷ bs))) ≡ spelled n
  at_name = take_at (spelled n) (blanks ++ (c ∷ bs)) _ (sym at_len)

  at_rest : drop (name_len (spelled n ++ (blanks ++ (c ∷ bs)))) (spelled n ++ (blanks ++ (c ∷ bs))) ≡ blanks ++ (c ∷ bs)
  at_rest = drop_at (spelled n) (blanks ++ (c ∷ bs)) _ (sym at_len)

  at_end : name_end (spelled n ++ (blanks ++ (c ∷ bs))) ≡ length (spelled n) + length blanks
  at_end = (λ i. at_len i + prefix_len is_blank (at_rest i)) ∙ ap (λ k. length (spelled n) + k) (leading_stops is_blank blanks c bs h cb)

  at_byte : (k : ℕ) → get_or (spelled n ++ (blanks ++ (c ∷ bs))) (length (spelled n) + length blanks + k) 0 ≡ get_or (c ∷ bs) k 0
  at_byte k =
      let place : length (spelled n) + length blanks + k ≡ length (spelled n) + (length blanks + k) = omega arith in
      ap (λ j. get_or (spelled n ++ (blanks ++ (c ∷ bs))) j 0) place
      ∙ get_or-append-add (spelled n) (blanks ++ (c ∷ bs)) (length blanks + k) 0 ∙ get_or-append-add blanks (c ∷ bs) k 0

  at_first : get_or (spelled n ++ (blanks ++ (c ∷ bs))) (length (spelled n) + length blanks) 0 ≡ c
  at_first =
      let place : length (spelled n) + length blanks ≡ length (spelled n) + length blanks + 0 = omega arith in
      ap (λ j. get_or (spelled n ++ (blanks ++ (c ∷ bs))) j 0) place ∙ at_byte 0

  -- what is read there
  at_open : open_tag (spelled n ++ (blanks ++ (c ∷ bs))) ≡ open_by (Some n) (length (spelled n) + length blanks) c (get_or bs 0 0)
  at_open =
      let all = spelled n ++ (blanks ++ (c ∷ bs)) in
      (λ i. open_by (named (at_name i)) (at_end i) (get_or all (at_end i) 0) (get_or all (at_end i + 1) 0))
      ∙ (λ i. open_by (named_spelled n i) (length (spelled n) + length blanks) (at_first i) (at_byte 1 i))

  at_close : close_tag (spelled n ++ (blanks ++ (c ∷ bs))) ≡ close_by (Some n) (length (spelled n) + length blanks) c
  at_close =
      let all = spelled n ++ (blanks ++ (c ∷ bs)) in
      (λ i. close_by (named (at_name i)) (at_end i) (get_or all (at_end i) 0))
      ∙ (λ i. close_by (named_spelled n i) (length (spelled n) + length blanks) (at_first i))

inside : (bs : List ℕ) (i c : ℕ) → 0 < c → get_or bs i 0 ≡ c → i < length bs
inside bs i c some h = ⊎_elim (λ lt. lt) (λ ge. absurd (let past = get_or_past bs i 0 ge in omega arith)) (cases_lt i (length bs))

-- a name right behind which stands a byte that is neither in a name nor blank
pub at_front : (bs : List ℕ) (n : Name) (c : ℕ) → in_name c ≡ false → is_blank c ≡ false → 0 < c →
    spelled n ≡ take (length (spelled n)) bs → get_or bs (length (spelled n)) 0 ≡ c → AtFront bs (n, length (spelled n))
at_front bs n c cn cb some front h =
    let len = length (spelled n) in
    let rest = drop (len + 1) bs in
    let in_it : len < length bs = inside bs len c some h in
    let whole : bs ≡ spelled n ++ (c ∷ rest) =
    sym (take-append-drop len bs) ∙ (λ i. sym front i ++ (drop_more bs len 0 in_it ∙ ap (λ b. b ∷ rest) h) i) in
    let end : len ≡ name_end (spelled n ++ (c ∷ rest)) = omega (arith, at_end n [] tt c rest cn cb) in
    (ap (λ l. named (take (name_len l) l)) whole ∙ ap named (at_name n [] tt c rest cn cb) ∙ named_spelled n, end ∙ ap name_end (sym whole), omega (arith, in_it))

regroup : (a b c d : List ℕ) → (a ++ (b ++ c)) ++ d ≡ a ++ (b ++ (c ++ d))
regroup a b c d = append_assoc a (b ++ c) d ∙ ap (λ l. a ++ l) (append_assoc b c d)

length_three : (a b c : List ℕ) → length (a ++ (b ++ c)) ≡ length a + length b + length c
length_three a b c = omega (arith, length-append a (b ++ c), length-append b c)

tag_opens : (bs : List ℕ) → eqb (get_or bs 0 0) 47 ≡ false → tag_of bs ≡ open_tag bs
unfolding tag_of
tag_opens bs h = cond-false (eqb (get_or bs 0 0) 47) (close_tag (drop 1 bs)) (open_tag bs) h

tag_closes : (bs : List ℕ) → tag_of (47 ∷ bs) ≡ close_tag bs
unfolding tag_of
tag_closes bs = refl

-- a spelled tag is found
pub found : {t : Tag} {e : Bool} {s : List ℕ} → Spells t e s → (rest : List ℕ) → tag_of (s ++ rest) ≡ Some (spelling t e (length s))
found (opens n blanks h) rest =
    let len : length (spelled n) + length blanks + 1 ≡ length (spelled n ++ (blanks ++ codes ">")) = sym (length_three (spelled n) blanks (codes ">")) in
    ap tag_of (regroup (spelled n) blanks (codes ">") rest) ∙ tag_opens (spelled n ++ (blanks ++ (62 ∷ rest))) (not_slash n (blanks ++ (62 ∷ rest)))
    ∙ at_open n blanks h 62 rest refl refl ∙ ap (λ k. Some (spelling (Open n) false k)) len
found (opens_and_closes n blanks h) rest =
    let len : length (spelled n) + length blanks + 2 ≡ length (spelled n ++ (blanks ++ codes "/>")) = sym (length_three (spelled n) blanks (codes "/>")) in
    ap tag_of (regroup (spelled n) blanks (codes "/>") rest) ∙ tag_opens (spelled n ++ (blanks ++ (47 ∷ 62 ∷ rest))) (not_slash n (blanks ++ (47 ∷ 62 ∷ rest)))
    ∙ at_open n blanks h 47 (62 ∷ rest) refl refl ∙ ap (λ k. Some (spelling (Open n) true k)) len
found (closes n blanks h) rest =
    let len : length (spelled n) + length blanks + 2 ≡ suc (length (spelled n ++ (blanks ++ codes ">"))) = omega (arith, length_three (spelled n) blanks (codes ">")) in
    tag_closes ((spelled n ++ (blanks ++ codes ">")) ++ rest) ∙ ap close_tag (regroup (spelled n) blanks (codes ">") rest)
    ∙ at_close n blanks h 62 rest refl refl ∙ ap (λ k. Some (spelling (Close n) false k)) len

-- bytes that begin with a spelled tag
pub record Split (bs : List ℕ) (c : Spelling) : Type 0 where
  pub word : List ℕ
  pub rest : List ℕ
  pub spells : Spells c.tag c.empty word
  pub whole : bs ≡ word ++ rest
  pub long : length word ≡ c.len

module _ (bs : List ℕ) (x : Name) (is : named (take (name_len bs) bs) ≡ Some x) where
  -- the blanks behind the name
  abbrev gap : List ℕ
  gap = take (prefix_len is_blank (drop (name_len bs) bs)) (drop (name_len bs) bs)

  gap_blank : AreBlank gap
  gap_blank = all_leading is_blank (drop (name_len bs) bs)

  pieces : bs ≡ spelled x ++ (gap ++ drop (name_end bs) bs)
  pieces =
      let behind = drop (name_len bs) bs in
      sym (take-append-drop (name_len bs) bs)
      ∙ (λ i. spelled_named (take (name_len bs) bs) x is i
      ++ (sym (take-append-drop (prefix_len is_blank behind) behind) ∙ ap (λ l. gap ++ l) (drop-drop (prefix_len is_blank behind) (name_len bs) bs)) i)

  gap_long : length (spelled x) + length gap ≡ name_end bs
  gap_long =
      let behind = drop (name_len bs) bs in
      let name = ap length (spelled_named (take (name_len bs) bs) x is) in
      let name-long = length-take-le (name_len bs) bs (prefix_len-le-length in_name bs) in
      let blanks-long = length-take-le (prefix_len is_blank behind) behind (prefix_len-le-length is_blank behind) in
      omega arith

  -- the bytes where the blanks end
  one : (c : ℕ) → 0 < c → get_or bs (name_end bs) 0 ≡ c → bs ≡ (spelled x ++ (gap ++ (c ∷ []))) ++ drop (name_end bs + 1) bs
  one c some h =
      pieces
      ∙ ap (λ l. spelled x ++ (gap ++ l)) (drop_more bs (name_end bs) 0 (inside bs (name_end bs) c some h) ∙ ap (λ b. b ∷ drop (name_end bs + 1) bs) h)
      ∙ sym (regroup (spelled x) gap (c ∷ []) (drop (name_end bs + 1) bs))

  two : (c d : ℕ) → 0 < c → 0 < d → get_or bs (name_end bs) 0 ≡ c → get_or bs (name_end bs + 1) 0 ≡ d →
      bs ≡ (spelled x ++ (gap ++ (c ∷ d ∷ []))) ++ drop (name_end bs + 1 + 1) bs
  two c d some more h g =
      pieces
      ∙ ap (λ l. spelled x ++ (gap ++ l))
      (drop_more bs (name_end bs) 0 (inside bs (name_end bs) c some h)
      ∙ (λ i. h i ∷ (drop_more bs (name_end bs + 1) 0 (inside bs (name_end bs + 1) d more g) ∙ ap (λ b. b ∷ drop (name_end bs + 1 + 1) bs) g) i))
      ∙ sym (regroup (spelled x) gap (c ∷ d ∷ []) (drop (name_end bs + 1 + 1) bs))

  opened : get_or bs (name_end bs) 0 ≡ 62 → Split bs (spelling (Open x) false (name_end bs + 1))
  opened h = record {
    word = spelled x ++ (gap ++ codes ">");
    rest = drop (name_end bs + 1) bs;
    spells = opens x gap gap_blank;
    whole = one 62 (omega arith) h;
    long = omega (arith, length_three (spelled x) gap (codes ">"), gap_long);
  }

  opened_and_closed : get_or bs (name_end bs) 0 ≡ 47 → get_or bs (name_end bs + 1) 0 ≡ 62 → Split bs (spelling (Open x) true (name_end bs + 2))
  opened_and_closed h g = record {
    word = spelled x ++ (gap ++ codes "/>");
    rest = drop (name_end bs + 1 + 1) bs;
    spells = opens_and_closes x gap gap_blank;
    whole = two 47 62 (omega arith) (omega arith) h g;
    long = omega (arith, length_three (spelled x) gap (codes "/>"), gap_long);
  }

  closed : get_or bs (name_end bs) 0 ≡ 62 → Split (47 ∷ bs) (spelling (Close x) false (name_end bs + 2))
  closed h = record {
    word = 47 ∷ (spelled x ++ (gap ++ codes ">"));
    rest = drop (name_end bs + 1) bs;
    spells = closes x gap gap_blank;
    whole = ap (λ l. 47 ∷ l) (one 62 (omega arith) h);
    long = omega (arith, length_three (spelled x) gap (codes ">"), gap_long);
  }

none_some : {A : Type 0} (c : Spelling) → ◌≡◌ {A = Option Spelling} None (Some c) → A
none_some c h = absurd (let z : ◌≡◌ {A = ℕ} 0 1 = cc in omega arith)

same_split : (bs : List ℕ) (c d : Spelling) → ◌≡◌ {A = Option Spelling} (Some c) (Some d) → Split bs c → Split bs d
same_split bs c d e s = subst (Split bs) (let same : c ≡ d = cc in same) s

split_open : (bs : List ℕ) (c : Spelling) → open_tag bs ≡ Some c → Split bs c
split_open bs c h = go (named (take (name_len bs) bs)) refl h
  where
    go : (o : Option Name) → named (take (name_len bs) bs) ≡ o →
        open_by o (name_end bs) (get_or bs (name_end bs) 0) (get_or bs (name_end bs + 1) 0) ≡ Some c → Split bs c
    go None e h = none_some c h
    go (Some x) e h = ⊎_elim
        (λ t. same_split bs (spelling (Open x) false (name_end bs + 1)) c (sym (cond-true _ _ _ t) ∙ h) (opened bs x e (eqb-true _ _ t)))
        (λ f.
        let h = sym (cond-false _ _ _ f) ∙ h in
        ⊎_elim
        (λ t.
        let both = and_parts _ _ t in
        same_split bs (spelling (Open x) true (name_end bs + 2)) c (sym (cond-true _ _ _ t) ∙ h)
        (opened_and_closed bs x e (eqb-true _ _ both.0) (eqb-true _ _ both.1)))
        (λ f. none_some c (sym (cond-false _ _ _ f) ∙ h))
        (cases_Bool (eqb (get_or bs (name_end bs) 0) 47 && eqb (get_or bs (name_end bs + 1) 0) 62)))
        (cases_Bool (eqb (get_or bs (name_end bs) 0) 62))

split_close : (bs : List ℕ) (c : Spelling) → close_tag bs ≡ Some c → Split (47 ∷ bs) c
split_close bs c h = go (named (take (name_len bs) bs)) refl h
  where
    go : (o : Option Name) → named (take (name_len bs) bs) ≡ o → close_by o (name_end bs) (get_or bs (name_end bs) 0) ≡ Some c → Split (47 ∷ bs) c
    go None e h = none_some c h
    go (Some x) e h = ⊎_elim
        (λ t. same_split (47 ∷ bs) (spelling (Close x) false (name_end bs + 2)) c (sym (cond-true _ _ _ t) ∙ h) (closed bs x e (eqb-true _ _ t)))
        (λ f. none_some c (sym (cond-false _ _ _ f) ∙ h))
        (cases_Bool (eqb (get_or bs (name_end bs) 0) 62))

-- a found tag is spelled there
pub split : (bs : List ℕ) (c : Spelling) → tag_of bs ≡ Some c → Split bs c
split [] c h = split_open [] c (sym (tag_opens [] refl) ∙ h)
split (b ∷ bs) c h = ⊎_elim
    (λ t.
    let slash = eqb-true b 47 t in
    subst (λ d. Split (d ∷ bs) c) (sym slash) (split_close bs c (sym (tag_closes bs) ∙ ap (λ d. tag_of (d ∷ bs)) (sym slash) ∙ h)))
    (λ f. split_open (b ∷ bs) c (sym (tag_opens (b ∷ bs) f) ∙ h))
    (cases_Bool (eqb b 47))
