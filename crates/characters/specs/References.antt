-- Characters, and the references that name them.
use Rattle.std.specs.Prelude.{ℕ, Bool, cond, ◌&&◌, ◌||◌, List, length, drop, Some, None, codes, Option, ◌==◌, nat_le, nat_lt, slice_index}
use Rattle.std.specs.Str.Parse.{digits_value}
use Rattle.std.specs.Char.{digit_value}
use Rattle.std.specs.List.{prefix_len}
use Rattle.std.specs.Str.{bytes_eq}
use Rattle.texts.specs.Bytes.{within}

-- tab, line feed, carriage return and 32 to 126: what a raw byte may be, and what a numbered reference may name
abbrev pub is_character : ℕ → Bool
is_character c = within 32 126 c || (c == 10 || (c == 9 || c == 13))

-- characters, and nothing else
unfoldable pub all_characters : List ℕ → Bool
all_characters bs = prefix_len is_character bs == length bs

-- the character of a named reference, given the name between `&` and `;`
abbrev pub named : List ℕ → Option ℕ
named name =
    cond (bytes_eq name (codes "amp")) (Some 38)
    (cond (bytes_eq name (codes "lt")) (Some 60)
    (cond (bytes_eq name (codes "gt")) (Some 62)
    (cond (bytes_eq name (codes "apos")) (Some 39)
    (cond (bytes_eq name (codes "quot")) (Some 34) None))))

-- a digit of a base, letters of either case from ten on
abbrev pub is_digit_of : ℕ → ℕ → Bool
is_digit_of radix b = nat_lt (digit_value b) radix

-- digits of a base, and nothing else
abbrev pub all_digits : ℕ → List ℕ → Bool
all_digits radix ds = prefix_len (is_digit_of radix) ds == length ds

-- what one to `most` digits of a base name: the character whose number they are worth
unfoldable pub numeral : ℕ → ℕ → List ℕ → Option ℕ
numeral radix most ds =
    cond (nat_lt 0 (length ds) && (nat_le (length ds) most && (all_digits radix ds && is_character (digits_value radix ds)))) (Some (digits_value radix ds)) None

-- what a numbered reference names, given what stands behind its `#`: up to 5 decimal digits, or `x` and up to 4 hexadecimal ones
unfoldable pub numbered : List ℕ → Option ℕ
numbered ds = cond (slice_index ds 0 == 120) (numeral 16 4 (drop 1 ds)) (numeral 10 5 ds)

-- what a reference names, given its body, which stands between `&` and `;`
unfoldable pub referenced : List ℕ → Option ℕ
referenced body = cond (slice_index body 0 == 35) (numbered (drop 1 body)) (named body)
