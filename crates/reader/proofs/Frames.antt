-- Laws of the frames that are open, the innermost first.
use Rattle.std.proofs.Common.{◌≡◌, ℕ, zero, suc, ◌+◌, ◌<◌, ◌≤◌, ◌≢◌, List, [], ◌∷◌, length, All, set, Some, None, Option, MatchOption, sym, refl, ap, ◌∙◌, subst, add-one, arith}
use Rattle.std.proofs.lemmas.List.{get_or-set_same, get_or-set_other}
use Rattle.std.proofs.lemmas.List.Elements.{All-head, All-rest, All-cons, All-same, All-weaker}
use Rattle.reader.specs.declared.frame.Frame.{Frame}
use Rattle.reader.specs.Frames.{no_frame, stack_of}

-- a write past the open frames
pub stack_past : (xs : List Frame) (d k : ℕ) (f : Frame) → d ≤ k → stack_of (set xs k f) d ≡ stack_of xs d
stack_past xs zero k f h = refl
stack_past xs (suc d) k f h =
    let ne : d ≢ k = omega arith in
    let le : d ≤ k = omega arith in
    let a = get_or-set_other xs k d f no_frame ne in
    let b = stack_past xs d k f le in
    cc

pub stack_push : (xs : List Frame) (d : ℕ) (f : Frame) → d < length xs → stack_of (set xs d f) (d + 1) ≡ f ∷ stack_of xs d
stack_push xs d f h =
    let le : d ≤ d = omega arith in
    let a = get_or-set_same xs d f no_frame h in
    let b = stack_past xs d d f le in
    rw add-one (cc)

pub stack_length : (xs : List Frame) (d : ℕ) → length (stack_of xs d) ≡ d
stack_length xs zero = refl
stack_length xs (suc d) = ap suc (stack_length xs d)

-- what was open, where a frame was taken off
pub was_open : (old new : List Frame) (o : Option Frame) (f : Frame) → o ≡ Some f → MatchOption o ((old ≡ []) × (new ≡ [])) (λ g. old ≡ g ∷ new) → old ≡ f ∷ new
was_open old new o f is h = subst (λ x. MatchOption x ((old ≡ []) × (new ≡ [])) (λ g. old ≡ g ∷ new)) is h

abbrev Counted : ℕ → List Frame → Type 0
Counted n fs = All (λ f. f.count ≤ n) fs

-- the counts of the open frames: that of the innermost, and all, where another is put in its place
pub top_counted : (n : ℕ) (f : Frame) (old rest : List Frame) → old ≡ f ∷ rest → Counted n old → f.count ≤ n
top_counted n f old rest e h = All-head (λ g. g.count ≤ n) f rest (subst (Counted n) e h)

pub counted_under : (n m : ℕ) (f : Frame) (old rest : List Frame) → n ≤ m → old ≡ f ∷ rest → Counted n old → Counted m rest
counted_under n m f old rest le e h = All-weaker (λ g. g.count ≤ n) (λ g. g.count ≤ m) (λ g k. omega (arith, k, le)) rest (All-rest (λ g. g.count ≤ n) f rest old e h)

pub counted_again : (n m : ℕ) (f g : Frame) (old rest new : List Frame) → n ≤ m → old ≡ f ∷ rest → new ≡ g ∷ rest → g.count ≤ m → Counted n old → Counted m new
counted_again n m f g old rest new le was is top h =
    All-same (λ x. x.count ≤ m) new (g ∷ rest) is (All-cons (λ x. x.count ≤ m) g rest top (counted_under n m f old rest le was h))

pub counted_left : (n : ℕ) (old new : List Frame) (o : Option Frame) → MatchOption o ((old ≡ []) × (new ≡ [])) (λ g. old ≡ g ∷ new) → Counted n old → Counted n new
counted_left n old new None h all = subst (Counted n) (h.0 ∙ sym h.1) all
counted_left n old new (Some f) h all = counted_under n n f old new (omega arith) h all
