-- Which of the two sorts of tag bytes may begin with.
use Rattle.std.proofs.Common.{◌≡◌, ℕ, eqb, List, get_or, drop, Some, None, Option, MatchOption}
use Rattle.std.proofs.lemmas.Bool.{cond-true, cond-false, eq-eqb, ne_eqb}
use Rattle.parts.specs.Tags.{close_tag, open_tag, tag_of}

pub tag_close : (bs : List ℕ) → get_or bs 0 0 ≡ 47 → tag_of bs ≡ close_tag (drop 1 bs)
unfolding tag_of
tag_close bs e = cond-true (eqb (get_or bs 0 0) 47) (close_tag (drop 1 bs)) (open_tag bs) (eq-eqb (get_or bs 0 0) 47 e)

pub tag_open : (bs : List ℕ) → (get_or bs 0 0 ≡ 47 → ⊥) → tag_of bs ≡ open_tag bs
unfolding tag_of
tag_open bs other = cond-false (eqb (get_or bs 0 0) 47) (close_tag (drop 1 bs)) (open_tag bs) (ne_eqb (get_or bs 0 0) 47 other)

pub some_weaker : {X : Type 0} (o : Option X) {P P' : Type 0} {Q Q' : X → Type 0} → (P → P') → ((x : X) → Q x → Q' x) → MatchOption o P Q → MatchOption o P' Q'
some_weaker None f g h = f h
some_weaker (Some x) f g h = g x h
