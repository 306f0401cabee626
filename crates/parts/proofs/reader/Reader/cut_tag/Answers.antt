use Rattle.std.proofs.Common.{◌≡◌, ℕ, List, ◌<◌, ◌≤◌, ◌+◌, ◌-◌, true, false, ◌⊎◌, length, take, drop, sym, refl, ap, ◌∙◌, subst, inl, inr, arith, length-drop}
use Rattle.std.proofs.lemmas.List.{take_rest, drop-drop}
use Rattle.parts.specs.declared.reader.Part.{Part}
use Rattle.parts.specs.declared.reader.Next.TheVariants as next
use Rattle.parts.specs.Tags.{element_of, tag_of}
use Rattle.parts.specs.Cutting.{◌then◌}
use Rattle.parts.specs.Readers.{parts_left, parts_by}
use Rattle.parts.proofs.Turns.{at_end, at_stray, at_tag, tag_inside}
use Rattle.parts.proofs.reader.Reader.cut_tag.Goals as goal
use Rattle.parts.proofs.reader.Reader.cut_tag.Goals.{then-spelling, else-spelling}

-- the bytes behind the first from a place on
behind : (msg : List ℕ) (at : ℕ) → take (length (take (length msg - at) (drop at msg)) - 1) (drop 1 (take (length msg - at) (drop at msg))) ≡ drop (at + 1) msg
behind msg at = take_rest (take (length msg - at) (drop at msg)) 1 ∙ ap (drop 1) (take_rest msg at) ∙ drop-drop 1 at msg

long : (msg : List ℕ) (at : ℕ) → length (take (length msg - at) (drop at msg)) ≡ length msg - at
long msg at = ap length (take_rest msg at) ∙ length-drop at msg

pub returns-in_default : goal.returns-in_default
unfolding parts_left
returns-in_default c =
    let msg = c.args.self.now.message.now in
    let at = c.args.self.now.at in
    let end : length msg ≤ at = omega (arith, c.in_default.len_below, long msg at) in
    record { same = refl; gives = (ap (λ n. parts_by n at (drop at msg)) c.requires ∙ at_end msg at end, refl); inside = tt; borrows = tt }

pub returns-in_default-tag_of : goal.returns-in_default-tag_of
unfolding parts_left
returns-in_default-tag_of c =
    let msg = c.args.self.now.message.now in
    let at = c.args.self.now.at in
    let none = ap tag_of (sym (behind msg at)) ∙ sym c.in_default-tag_of.ensures.value in
    let more : at < length msg = omega (arith, c.in-len1-up.len_at_least, long msg at) in
    record { same = refl; gives = (at, ap (λ n. parts_by n at (drop at msg)) c.requires ∙ at_stray msg at more none, refl, refl); inside = tt; borrows = tt }

pub returns : goal.returns
unfolding parts_left
returns c =
    let msg = c.args.self.now.message.now in
    let at = c.args.self.now.at in
    let s = c.in-Some.spelling in
    let found = ap tag_of (sym (behind msg at)) ∙ sym c.in-Some.ensures.value in
    let more : at < length msg = omega (arith, c.in-len1-up.len_at_least, long msg at) in
    let way : ((s.empty ≡ true) × (c.if-spelling.self ≡ next.EmptyRun (record { name = element_of s.tag; place = at }))) ⊎ ((s.empty ≡ false) × (c.if-spelling.self ≡ next.Run)) = elim c.if-spelling.branch [
      | then-spelling w ↦ inl (w.if-spelling.true, w.self-is ∙ ap (λ n. next.EmptyRun (record { name = n; place = at })) c.name-name.ensures)
      | else-spelling w ↦ inr (w.if-spelling.false, w.self-is)
    ] in
    let piece = c.of_tag.ensures.piece in
    record {
      same = refl;
      gives = ap (λ n. parts_by n at (drop at msg)) c.requires ∙ at_tag msg at more s c.if-spelling.self found way ∙ ap (λ t. t then parts_by c.if-spelling.self (at + 1 + s.len) (drop (at + 1 + s.len) msg)) (sym piece);
      inside = tag_inside c.of_tag.result at s.tag (length msg) piece;
      borrows = subst (λ (p : Part). p.bytes.now ≡ take (at + 1 + s.len - p.place) (drop p.place msg)) (sym c.of_tag.ensures.part) refl;
    }
