-- The number that digits are worth, digit by digit.
use Rattle.std.proofs.Common.{◌≡◌, ℕ, ◌+◌, ◌*◌, ◌^◌, ◌<◌, ◌≤◌, Bool, true, false, cond, ltb, leb, List, length, drop, Some, None, refl, mul-le-mul_left, arith, lit<}
use native.Mathlib.Nat.{pow-le-pow_right}
use Rattle.std.specs.Str.Parse.{digits_value, digits_value_after}
use Rattle.std.specs.List.{prefix_len}
use Rattle.std.proofs.lemmas.Bool.{lt-ltb}
use Rattle.std.proofs.lemmas.Bool.Decides.{nat_tests}
use Rattle.std.specs.Bool.{then_some}
use Rattle.characters.specs.References.{is_character, is_digit_of, all_digits, numeral}

-- i digits have been read, which are worth n
pub record Worth (radix n i : ℕ) (ds : List ℕ) : Type 0 where
  pub rest : digits_value_after radix n (drop i ds) ≡ digits_value radix ds
  pub passed : i + prefix_len (is_digit_of radix) (drop i ds) ≡ prefix_len (is_digit_of radix) ds
  pub small : n < 16 ^ i

module _ (radix n i : ℕ) (ds : List ℕ) (short : i < 5) (base : radix ≤ 16) (w : Worth radix n i ds) where
  four : 16 ^ i ≤ 16 ^ 4
  four = let le : i ≤ 4 = omega arith in pow-le-pow_right (lit< tt) le

  product : n * radix ≤ n * 16
  product = mul-le-mul_left n base

  pub product_fits : n * radix < 1048576
  product_fits = omega (arith, product, four, w.small)

  pub sum_fits : (d : ℕ) → d < radix → n * radix + d < 1048592
  sum_fits d h = omega (arith, product, four, w.small)

-- what digits of the right number name
pub numeral_of : (radix most : ℕ) (ds : List ℕ) (n : ℕ) → 0 < length ds → length ds ≤ most → all_digits radix ds ≡ true → n ≡ digits_value radix ds → numeral radix most ds ≡ then_some (is_character n) n
unfolding numeral
numeral_of radix most ds n some few all is =
    let p : ltb 0 (length ds) ≡ true = lt-ltb _ _ some in
    let q : leb (length ds) most ≡ true = grind (arith, nat_tests) in
    simp (p, q, all, is) (go (is_character (digits_value radix ds)) (digits_value radix ds)) where
      go : (b : Bool) (m : ℕ) → cond b (Some m) None ≡ then_some b m
      go true m = refl
      go false m = refl
