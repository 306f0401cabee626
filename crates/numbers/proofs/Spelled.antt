-- What stands on the page after a sign and digits were put there.
use Rattle.std.proofs.Common.{◌≡◌, ℕ, zero, suc, ◌+◌, ◌-◌, ◌^◌, ◌<◌, ◌≤◌, List, [], ◌∷◌, ◌++◌, length, drop, set, decimal, sym, ap, ◌∙◌, append-nil, arith}
use borrow.Rule.Slice.PartMut.{put_mid}
use Rattle.std.proofs.lemmas.List.{drop_all}
use Rattle.texts.specs.Digits.{padded}
use Rattle.texts.proofs.Numerals.{decimal_worth}

-- as many digits as a number has are what is written of it
pub padded_decimal : (w n : ℕ) → w ≡ length (decimal n) → n < 2 ^ 64 → padded w n ≡ decimal n
padded_decimal w n e small = ap (λ k. padded k n) e ∙ sym (decimal_worth n small).0

-- a minus, and digits behind it
pub put_minus : (page ds : List ℕ) (len : ℕ) → len ≡ 1 + length ds → len ≤ length page →
    put_mid 1 (len - 1) (set page 0 45) ds ≡ (45 ∷ ds) ++ drop len page
put_minus [] ds len e h = absurd (omega arith)
put_minus (x ∷ xs) ds zero e h = absurd (omega arith)
put_minus (x ∷ xs) ds (suc k) e h =
    let one : suc k - 1 ≡ k = omega arith in
    ap (λ n. 45 ∷ (ds ++ drop n xs)) one

-- the same up to the end, whatever is put there
pub put_minus_all : (page ds : List ℕ) (len : ℕ) → suc len ≡ length page → put_mid 1 len (set page 0 45) ds ≡ 45 ∷ ds
put_minus_all [] ds len e = absurd (omega arith)
put_minus_all (x ∷ xs) ds len e = ap (λ l. 45 ∷ (ds ++ l)) (drop_all len xs (omega arith)) ∙ ap (λ l. 45 ∷ l) (append-nil ds)
