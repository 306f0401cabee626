-- The characters of a text as it is read.
use Rattle.std.specs.Prelude.{ℕ, zero, suc, ◌+◌, Bool, cond, not, ◌&&◌, List, [], ◌∷◌, length, take, Some, None, Option, ◌==◌, nat_lt, slice_index}
use Rattle.std.specs.Option.{option_map}
use Rattle.std.specs.List.{prefix_len}
use Rattle.characters.specs.References.{referenced}

-- how long the body of a reference is that begins here: up to the first `;`
abbrev pub body_len : List ℕ → ℕ
body_len bs = prefix_len (λ b. not (b == 59)) bs

-- the character of a reference, given what stands behind its `&`, and how many bytes it takes there; none where it is no good reference
unfoldable pub reference_at : List ℕ → Option (ℕ × ℕ)
reference_at bs = cond (nat_lt (body_len bs) (length bs)) (option_map (λ c. (c, body_len bs + 1)) (referenced (take (body_len bs) bs))) None

-- a byte that stands for itself, whatever follows: neither `&` nor a carriage return
abbrev pub is_plain : ℕ → Bool
is_plain b = not (b == 38) && not (b == 13)

-- the character that stands at a byte, given the bytes behind it, and how many of those belong to it; none at an `&` that begins no good reference
unfoldable pub unit_at : ℕ → List ℕ → Option (ℕ × ℕ)
unit_at b bs =
    cond (b == 38) (reference_at bs)
    (cond (b == 13) (Some (10, cond (slice_index bs 0 == 10) 1 0))
    (Some (b, 0)))

-- a unit's character and then the characters behind it; nothing from a bad reference on
abbrev pub before : Option (ℕ × ℕ) → (ℕ → List ℕ) → List ℕ
before None more = []
before (Some u) more = u.0 ∷ more u.1

-- the characters of a text of which the first bytes, so many, belong to the character before
abbrev pub decoded_from : ℕ → List ℕ → List ℕ
decoded_from k [] = []
decoded_from zero (b ∷ bs) = before (unit_at b bs) (λ k. decoded_from k bs)
decoded_from (suc k) (b ∷ bs) = decoded_from k bs

-- the characters of a text, up to its end or to its first bad reference
abbrev pub decoded : List ℕ → List ℕ
decoded text = decoded_from 0 text

-- the offset of a bad reference, or else what is found behind the unit
abbrev pub bad_or : ℕ → Option (ℕ × ℕ) → (ℕ → Option ℕ) → Option ℕ
bad_or at None more = Some at
bad_or at (Some u) more = more u.1

-- the first bad reference of bytes that begin at an offset and of which the first, so many, belong to the character before
abbrev pub first_bad_from : ℕ → ℕ → List ℕ → Option ℕ
first_bad_from at k [] = None
first_bad_from at zero (b ∷ bs) = bad_or at (unit_at b bs) (λ k. first_bad_from (at + 1) k bs)
first_bad_from at (suc k) (b ∷ bs) = first_bad_from (at + 1) k bs

-- the offset of the first `&` of a text that begins no good reference
abbrev pub first_bad : List ℕ → Option ℕ
first_bad text = first_bad_from 0 0 text
