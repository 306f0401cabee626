-- What a cursor gives, as a list, and lists that are told equal: by what is left of one behind the items of the other, one at a time.
use Rattle.std.proofs.Common.{◌≡◌, ℕ, length, Bool, false, List, [], ◌∷◌, ◌++◌, Some, None, Option, MatchOption, Decides, sym, refl, ap, ◌∙◌, subst, append-nil}
use denote.Param.Members.{Mut, Called}
use Rattle.std.specs.ControlFlow.{continue_value}
use Rattle.std.specs.Iterator.{AlwaysYields, YieldsThen, TryFoldsItems}
use Rattle.std.specs.List.{FoldsTo}
use Rattle.std.proofs.lemmas.List.{append_cancel_left}
use Rattle.std.proofs.lemmas.Iterator.{YieldsList}
use Rattle.std.proofs.lemmas.Iterator.Consumers.{YieldsList-from_shown}
use Rattle.characters.specs.declared.cursor.Characters.{Characters}
use Rattle.characters.specs.Left.{left as toCome, Gives}

-- a cursor gives what is left
pub characters_yield : {s : Characters} (cs : List ℕ) → toCome s ≡ cs → YieldsList Gives (λ c. c) s cs
characters_yield {s = s} cs e = subst (YieldsList Gives (λ c. c) s) e (YieldsList-from_shown Gives (λ c. c) toCome (λ s t h. ap length h.0) (λ s c t h. h) s)

module _ {T A : Type 0} (left : T → List A) where
  -- r is what is left behind xs, or none where b does not begin with them
  abbrev pub Behind : T → List A → Option T → Type 0
  Behind b xs r = MatchOption r ((cs : List A) → ¬ (left b ≡ xs ++ cs)) (λ t. left b ≡ xs ++ left t)

  -- behind one item more
  more_behind : (b t : T) (x : A) (xs : List A) (r : Option T) → left b ≡ x ∷ left t → Behind t xs r → Behind b (x ∷ xs) r
  more_behind b t x xs None e h = λ cs k. h cs (let j : x ∷ left t ≡ x ∷ xs ++ cs = sym e ∙ k in cc)
  more_behind b t x xs (Some u) e h = e ∙ ap (λ k. x ∷ k) h

  -- whether something is left behind xs tells whether a list is just xs
  nothing_left : (xs : List A) (b : T) (q : Bool) (r : Option T) → Behind b xs r → MatchOption r (q ≡ false) (λ t. Decides q (left t ≡ [])) → Decides q (left b ≡ xs)
  nothing_left xs b q None h z = (λ yes. cc, λ same. absurd (h [] (same ∙ sym (append-nil xs))))
  nothing_left xs b q (Some t) h z =
      (λ yes. h ∙ ap (λ k. xs ++ k) (z.0 yes) ∙ append-nil xs, λ same. z.1 (append_cancel_left xs (left t) [] (sym h ∙ same ∙ sym (append-nil xs))))

module _ {S T A F : Type 0} (E : Type 0) (steps : S → Option A → S → Type 0) (call : F → T → A → Option T → F → Type 0) (left : T → List A) where
  -- a call that went on
  abbrev Turn : F × T → A → F × T → Type 0
  Turn p x q = (v : Option T) × call p.0 p.1 x v q.0 × (v ≡ Some q.1)

  -- the end: no item was left, or a call gave none
  abbrev Stop : F → T → Option T → Option A → Type 0
  Stop f a r o = MatchOption o (r ≡ Some a) (λ x. (v : Option T) × (h : F) × (e : E) × call f a x v h × (v ≡ None) × (r ≡ None))

  -- a call passes over its item, and over no other
  abbrev Exact : Type 0
  Exact = (f h : F) (b : T) (x : A) (v : Option T) → call f b x v h → Behind left b (x ∷ []) v

  -- what is left where the calls ended, and where they began
  at_stop : (xs : List A) (s u : S) (f : F) (b : T) (r : Option T) (o : Option A) → Exact → AlwaysYields steps (λ x. x) s xs → steps s o u → Stop f b r o → Behind left b xs r
  at_stop [] s u f b r None k e w h = subst (Behind left b []) (sym h) refl
  at_stop (x ∷ xs) s u f b r None k e w h = absurd (e.0 u w)
  at_stop [] s u f b r (Some y) k e w h = absurd (e y u w)
  at_stop (x ∷ xs) s u f b r (Some y) k e w h =
      let m : y ≡ x = (e.1 y u w).0 in
      let stands : Behind left b (y ∷ []) None = subst (Behind left b (y ∷ [])) h.4 (k f h.1 b y h.0 h.3) in
      subst (Behind left b (x ∷ xs)) (sym h.5) (λ cs j. stands (xs ++ cs) (j ∙ ap (λ z. z ∷ xs ++ cs) (sym m)))

  along : (ys xs : List A) (s u : S) (f h : F) (b a : T) (r : Option T) (o : Option A) → Exact → AlwaysYields steps (λ x. x) s xs
      → YieldsThen steps s ys o u → FoldsTo {P = F × T} Turn (f, b) ys (h, a) → Stop h a r o → Behind left b xs r
  along [] xs s u f h b a r o k e w z i = at_stop xs s u f b r o k e (subst (λ j. steps j o u) (sym w.1) w.2) (subst {A = F × T} (λ p. Stop p.0 p.1 r o) (sym z) i)
  along (y ∷ ys) [] s u f h b a r o k e w z i = absurd (e y w.1.0 w.1.1)
  along (y ∷ ys) (x ∷ xs) s u f h b a r o k e w z i =
      let m = e.1 y w.1.0 w.1.1 in
      let stands : left b ≡ y ∷ left z.0.1 = subst (Behind left b (y ∷ [])) z.1.2 (k f z.0.0 b y z.1.0 z.1.1) in
      more_behind left b z.0.1 x xs r (stands ∙ ap (λ j. j ∷ left z.0.1) m.0) (along ys xs w.1.0 u z.0.0 h z.0.1 a r o k m.1 (w.0, w.1.2, w.2) z.2 i)

-- a `try_fold` that passes over one item at a time decides, by whether something is left, whether a list is just the items
pub Decides-from_try_fold : {S T A F E : Type 0} (steps : S → Option A → S → Type 0) {g : Mut F (T × (A × Unit {0})) (Option T)} (s u : S) {f : F} {b : T} {r : Option T} {q : Bool} (left : T → List A) (bs xs : List A)
    → TryFoldsItems steps g (λ v c. v ≡ continue_value {B = E} {T = T} c) (λ _ v. v ≡ None) s f b r u → YieldsList steps (λ x. x) s xs → left b ≡ bs
    → ((p h : F) (t : T) (x : A) (v : Option T) → Called g p (t, (x, tt)) v h → Behind left t (x ∷ []) v)
    → MatchOption r (q ≡ false) (λ t. Decides q (left t ≡ [])) → Decides q (bs ≡ xs)
Decides-from_try_fold {E = E} steps {g = g} s u {f = f} {b = b} {r = r} {q = q} left bs xs d e same passes last =
    subst (λ k. Decides q (k ≡ xs)) same (nothing_left left xs b q r (along E steps (λ p t x v h. Called g p (t, (x, tt)) v h) left d.0 xs s u f d.2 b d.3 r d.1 passes e.runs d.4 d.5 d.6) last)
