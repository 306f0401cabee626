-- Base64 texts: RFC 2045's alphabet, groups of four, blanks skipped.
use Rattle.std.specs.Prelude.{◌≡◌, ℕ, ◌+◌, ◌-◌, ◌*◌, ◌/◌, ◌%◌, ◌^◌, ◌<◌, Bool, cond, not, ◌&&◌, ◌||◌, List, [], ◌∷◌, map, length, take, drop, filter, ◌==◌, nat_le, nat_lt}
use Rattle.std.specs.List.{prefix_len, AllByRecursion}
use Rattle.texts.specs.Bytes.{within, is_blank}

-- one of the 64 letters: A to Z, a to z, 0 to 9, `+` and `/`
abbrev pub is_letter : ℕ → Bool
is_letter b = within 65 90 b || (within 97 122 b || (within 48 57 b || (b == 43 || b == 47)))

-- what a letter is worth: its place in that order, six bits
abbrev pub sextet : ℕ → ℕ
sextet b = cond (within 65 90 b) (b - 65) (cond (within 97 122 b) (b - 71) (cond (within 48 57 b) (b + 4) (cond (b == 43) 62 63)))

-- the letter worth v
abbrev pub letter : ℕ → ℕ
letter v = cond (nat_lt v 26) (v + 65) (cond (nat_lt v 52) (v + 71) (cond (nat_lt v 62) (v - 4) (cond (v == 62) 43 47)))

-- `=`, which fills up the last group
abbrev pub is_pad : ℕ → Bool
is_pad b = b == 61

-- a text without its blanks
abbrev pub nonblank : List ℕ → List ℕ
nonblank text = filter (λ b. not (is_blank b)) text

-- the letters that a text begins with, blanks aside
abbrev pub letters : List ℕ → List ℕ
letters text = take (prefix_len is_letter (nonblank text)) (nonblank text)

-- what follows those letters
abbrev pub padding : List ℕ → List ℕ
padding text = drop (prefix_len is_letter (nonblank text)) (nonblank text)

-- the bytes that sextets hold: four make three bytes, and of a last three or two the bits that fill no byte are left out
abbrev pub packed : List ℕ → List ℕ
packed [] = []
packed (a ∷ []) = []
packed (a ∷ b ∷ []) = (a * 4 + b / 16) ∷ []
packed (a ∷ b ∷ c ∷ []) = (a * 4 + b / 16) ∷ (b % 16 * 16 + c / 4) ∷ []
packed (a ∷ b ∷ c ∷ d ∷ ss) = (a * 4 + b / 16) ∷ (b % 16 * 16 + c / 4) ∷ (c % 4 * 64 + d) ∷ packed ss

-- what the letters are worth, one by one
abbrev pub sextets : List ℕ → List ℕ
sextets text = map sextet (letters text)

-- the bytes that a text stands for
abbrev pub decoded : List ℕ → List ℕ
decoded text = packed (sextets text)

-- the last of some sextets, or s where there are none
abbrev pub last_or : ℕ → List ℕ → ℕ
last_or s [] = s
last_or s (t ∷ ts) = last_or t ts

-- Groups of four: letters, then at most two `=`. Each `=` leaves two bits of the last sextet unused, which are zero.
abbrev pub is_base64 : List ℕ → Bool
is_base64 text =
    (prefix_len is_pad (padding text) == length (padding text))
    && (nat_le (length (padding text)) 2
    && (length (nonblank text) % 4 == 0
    && last_or 0 (sextets text) % (4 ^ length (padding text)) == 0))

-- bytes in groups of three, four letters a group, the last one filled up with `=`
abbrev pub base64_spelling : List ℕ → List ℕ
base64_spelling [] = []
base64_spelling (a ∷ []) = letter (a / 4) ∷ letter (a % 4 * 16) ∷ 61 ∷ 61 ∷ []
base64_spelling (a ∷ b ∷ []) = letter (a / 4) ∷ letter (a % 4 * 16 + b / 16) ∷ letter (b % 16 * 4) ∷ 61 ∷ []
base64_spelling (a ∷ b ∷ c ∷ bs) =
    letter (a / 4) ∷ letter (a % 4 * 16 + b / 16) ∷ letter (b % 16 * 4 + c / 64) ∷ letter (c % 64) ∷ base64_spelling bs

-- blanks aside, the text is the spelling of some bytes
abbrev pub SpellsBytes : List ℕ → Type 0
SpellsBytes text = (bs : List ℕ) × AllByRecursion (λ b. b < 256) bs × (nonblank text ≡ base64_spelling bs)
