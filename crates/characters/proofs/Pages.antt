-- A page to which characters are written one after another.
use Rattle.std.proofs.Common.{◌≡◌, ℕ, ◌+◌, ◌-◌, ◌<◌, ◌≤◌, ◌⊎◌, inl, inr, ⊎_elim, refl, List, [], ◌∷◌, ◌++◌, length, get_or, take, drop, Some, None, sym, ap, ◌∙◌, append_assoc, append-nil, length-append, length-drop, arith}
use borrow.Rule.Slice.PartMut.{put_mid}
use Rattle.std.proofs.lemmas.List.{at_drop_more, drop-drop, drop_all, take_rest, drop_at, take_at, take_more, flat_map_more}
use Rattle.std.proofs.lemmas.Bool.{cases_eq, ne_eqb}
use Rattle.characters.specs.Spelling.{reference_for, or_itself, escape, characters_spelling}

pub escape_some : (c : ℕ) (w : List ℕ) → reference_for c ≡ Some w → escape c ≡ w
unfolding escape
escape_some c w e = ap (λ o. or_itself o c) e

pub escape_none : (c : ℕ) → reference_for c ≡ None → escape c ≡ c ∷ []
unfolding escape
escape_none c e = ap (λ o. or_itself o c) e

-- a character stands for itself, or takes more than one byte
own_or_more : (c : ℕ) → (escape c ≡ c ∷ []) ⊎ (2 ≤ length (escape c))
unfolding escape
own_or_more c =
    ⊎_elim (λ e. inr (omega (arith, ap (λ x. length (escape x)) e)))
    (λ amp. ⊎_elim (λ e. inr (omega (arith, ap (λ x. length (escape x)) e)))
    (λ less. ⊎_elim (λ e. inr (omega (arith, ap (λ x. length (escape x)) e)))
    (λ more. ⊎_elim (λ e. inr (omega (arith, ap (λ x. length (escape x)) e)))
    (λ line. inl (simp (ne_eqb c 38 amp, ne_eqb c 60 less, ne_eqb c 62 more, ne_eqb c 13 line)))
    (cases_eq c 13)) (cases_eq c 62)) (cases_eq c 60)) (cases_eq c 38)

pub length_least : (cs : List ℕ) → length cs ≤ length (characters_spelling cs)
length_least [] = omega arith
length_least (c ∷ cs) =
    let both = length-append (escape c) (characters_spelling cs) in
    let rest = length_least cs in
    ⊎_elim (λ e. omega (arith, both, rest, ap length e)) (λ two. omega (arith, both, rest, two)) (own_or_more c)

-- characters that take a byte each are their own spelling
pub own_spelling : (cs : List ℕ) → length (characters_spelling cs) ≡ length cs → characters_spelling cs ≡ cs
own_spelling [] h = refl
own_spelling (c ∷ cs) h =
    let both = length-append (escape c) (characters_spelling cs) in
    let least = length_least cs in
    ⊎_elim
    (λ e. ap (λ l. l ++ characters_spelling cs) e ∙ ap (λ l. c ∷ l) (own_spelling cs (omega (arith, both, h, ap length e))))
    (λ two. absurd (omega (arith, both, h, two, least)))
    (own_or_more c)

-- the length of what is left to write
pub length_more : (cs : List ℕ) (i : ℕ) → i < length cs → length (characters_spelling (drop i cs)) ≡ length (escape (get_or cs i 0)) + length (characters_spelling (drop (i + 1) cs))
length_more cs i h =
    let e : characters_spelling (drop i cs) ≡ escape (get_or cs i 0) ++ characters_spelling (drop (i + 1) cs) = at_drop_more characters_spelling cs i 0 h in
    ap length e ∙ length-append (escape (get_or cs i 0)) (characters_spelling (drop (i + 1) cs))

-- what is written so far, with one character more
pub spelling_more : (cs : List ℕ) (i : ℕ) → i < length cs → characters_spelling (take (i + 1) cs) ≡ characters_spelling (take i cs) ++ escape (get_or cs i 0)
spelling_more cs i h = ap characters_spelling (take_more cs i 0 h) ∙ sym (flat_map_more escape [] (take i cs) (get_or cs i 0))

-- the page after one text more, where it held w at its front and was as before behind that
pub page_more : (old page w t : List ℕ) (at : ℕ) → at ≡ length w → page ≡ w ++ drop at old → take at page ++ (t ++ drop (at + length t) page) ≡ (w ++ t) ++ drop (at + length t) old
page_more old page w t at e p =
    let front : take at page ≡ w = ap (take at) p ∙ take_at w (drop at old) at (sym e) in
    let back : drop (at + length t) page ≡ drop (at + length t) old =
    ap (drop (at + length t)) p ∙ sym (drop-drop (length t) at (w ++ drop at old)) ∙ ap (drop (length t)) (drop_at w (drop at old) at (sym e)) ∙ drop-drop (length t) at old in
    ap (λ l. l ++ (t ++ drop (at + length t) page)) front ∙ ap (λ l. w ++ (t ++ l)) back ∙ sym (append_assoc w t (drop (at + length t) old))

-- the same, where the text was written to the part of the page that begins there
pub page_put : (old page w t part : List ℕ) (at : ℕ) → at ≡ length w → page ≡ w ++ drop at old → part ≡ t ++ drop (length t) (take (length page - at) (drop at page))
    → put_mid at (length page - at) page part ≡ (w ++ t) ++ drop (at + length t) old
page_put old page w t part at e p put =
    let rest : part ≡ t ++ drop (at + length t) page = put ∙ ap (λ l. t ++ drop (length t) l) (take_rest page at) ∙ ap (λ l. t ++ l) (drop-drop (length t) at page) in
    let long = length-drop at page in
    let none : drop (length page - at) (drop at page) ≡ [] = drop_all (length page - at) (drop at page) (omega arith) in
    ap (λ l. take at page ++ (part ++ l)) none ∙ ap (λ l. take at page ++ l) (append-nil part ∙ rest) ∙ page_more old page w t at e p
