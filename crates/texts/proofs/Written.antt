-- What stands on a page after one text was put behind another.
use Rattle.std.proofs.Common.{◌≡◌, ℕ, ◌+◌, ◌-◌, ◌<◌, List, [], ◌∷◌, ◌++◌, length, get_or, drop, set, sym, ap, ◌∙◌, append_assoc, arith}
use borrow.Rule.Slice.PartMut.{put_mid}
use Rattle.std.proofs.lemmas.List.{take_at, drop_at, set_at, drop_more, drop-drop}

-- one byte behind what is there
pub put_byte : (front old : List ℕ) (at b : ℕ) → at ≡ length front → at < length old →
    set (front ++ drop at old) at b ≡ (front ++ b ∷ []) ++ drop (at + 1) old
put_byte front old at b e h =
    ap (λ l. set (front ++ l) at b) (drop_more old at 0 h)
    ∙ set_at front (get_or old at 0) (drop (at + 1) old) b at (sym e)
    ∙ sym (append_assoc front (b ∷ []) (drop (at + 1) old))

-- a text behind what is there, in the part of the page that it fills
pub put_text : (front more old : List ℕ) (at len : ℕ) → at ≡ length front → len ≡ at + length more →
    put_mid at (len - at) (front ++ drop at old) more ≡ (front ++ more) ++ drop len old
put_text front more old at len e f =
    let gone : at + (len - at) ≡ len = omega arith in
    (λ i. take_at front (drop at old) at (sym e) i ++ (more ++ drop (len - at) (drop_at front (drop at old) at (sym e) i)))
    ∙ ap (λ l. front ++ (more ++ l)) (drop-drop (len - at) at old ∙ ap (λ k. drop k old) gone)
    ∙ sym (append_assoc front more (drop len old))
