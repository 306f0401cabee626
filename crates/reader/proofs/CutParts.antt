-- The parts that bytes of a message are cut into: their runs stand in the message, and one stands before every tag.
use Rattle.std.proofs.Common.{◌≡◌, ℕ, ◌+◌, List, [], ◌∷◌, ◌++◌, length, take, drop, sym, refl, ap, ◌∙◌, subst, append_assoc, arith}
use Rattle.std.proofs.lemmas.List.{length-append, take_all, take_at, drop_at, drop-drop}
use Rattle.parts.specs.declared.tag.Tag.{Tag}
use Rattle.parts.specs.declared.tag.Tag.TheVariants.{Open, Close}
use Rattle.parts.specs.Cutting.{Parts, run, tag, ◌then◌, ends, broken, Cuts, last_run, no_tag, a_tag, both_tags}
use Rattle.reader.specs.Contents.{InPlace, FromTag}

behind : (msg : List ℕ) (p : ℕ) (r s bs : List ℕ) → r ++ (60 ∷ (s ++ bs)) ≡ drop p msg → bs ≡ drop (p + length r + 1 + length s) msg
behind msg p r s bs e =
    let k = length r + 1 + length s in
    let long : length (r ++ 60 ∷ s) ≡ k = omega (arith, length-append r (60 ∷ s)) in
    let far : p + k ≡ p + length r + 1 + length s = omega arith in
    sym (drop_at (r ++ 60 ∷ s) bs k long) ∙ ap (drop k) (append_assoc r (60 ∷ s) bs ∙ e) ∙ drop-drop k p msg ∙ ap (λ j. drop j msg) far

front : (msg : List ℕ) (p : ℕ) (r bs : List ℕ) → r ++ bs ≡ drop p msg → r ≡ take (length r) (drop p msg)
front msg p r bs e = sym (take_at r bs (length r) refl) ∙ ap (take (length r)) e

pub in_place : {p : ℕ} {bs : List ℕ} {ps : Parts} → Cuts p bs ps → (msg : List ℕ) → bs ≡ drop p msg → InPlace msg ps
in_place (last_run {p} {r} h) msg e = (sym (take_all (length r) r (omega arith)) ∙ ap (take (length r)) e, tt)
in_place (no_tag {p} r bs h other) msg e = (front msg p r (60 ∷ bs) e, tt)
in_place (a_tag {p} r s bs h spelled cut) msg e = (front msg p r (60 ∷ (s ++ bs)) e, in_place cut msg (behind msg p r s bs e))
in_place (both_tags {p} r s bs h spelled cut) msg e = (front msg p r (60 ∷ (s ++ bs)) e, (refl, in_place cut msg (behind msg p r s bs e)))

-- a run first, and then parts that a tag begins
abbrev pub FromRun : ℕ → Parts → Type 0
FromRun p ps = (r : List ℕ) × (qs : Parts) × (ps ≡ run p r then qs) × FromTag qs

behind_tag : (q : ℕ) (t : Tag) {p : ℕ} {ps : Parts} → FromRun p ps → FromTag (tag q t then ps)
behind_tag q t x = subst (λ l. FromTag (tag q t then l)) (sym x.2) x.3

pub from_run : {p : ℕ} {bs : List ℕ} {ps : Parts} → Cuts p bs ps → FromRun p ps
from_run (last_run {p} {r} h) = (r, ends, refl, tt)
from_run (no_tag {p} r bs h other) = (r, broken (p + length r), refl, tt)
from_run (a_tag {p} r s bs {t} {ps} h spelled cut) = (r, tag (p + length r) t then ps, refl, behind_tag (p + length r) t (from_run cut))
from_run (both_tags {p} r s bs {n} {ps} h spelled cut) =
    (r, tag (p + length r) (Open n) then run (p + length r + 1 + length s) [] then tag (p + length r) (Close n) then ps, refl, behind_tag (p + length r) (Close n) (from_run cut))
