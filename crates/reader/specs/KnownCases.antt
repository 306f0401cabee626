-- Cases at the edges of the rules that the definitions are sure to give.
use Rattle.std.specs.Prelude.{◌≡◌, ℕ, true, false, List, [], ◌∷◌, ℤ, pos, negsuc, Some, None, Err, codes}
use Prim.Native.String.{String}
use Rattle.std.specs.List.{AllByRecursion}
use Rattle.wire.specs.declared.refusal.Refusal.{Refusal}
use Rattle.wire.specs.declared.refusal.Refusal.TheVariants.{Unfinished, BadText, MisplacedTag}
use Rattle.numbers.specs.Ints.{int_of}
use Rattle.numbers.specs.Doubles.{double_of, double_spelling}
use Rattle.dates.specs.Moments.{Moment, date_of}
use Rattle.base64_texts.specs.Base64.{is_base64, decoded}
use Rattle.reader.specs.Reading.{rows_of}

-- a text and what it reads as, a number and how it is written, or a message and its refusal
pub data Case : Type 0 where
  an_int : String → ℤ → Case
  no_int : String → Case
  a_double : String → ℤ → ℕ → Case
  writes_double : ℤ → ℕ → String → Case
  a_date : String → Moment → Case
  no_date : String → Case
  a_base64 : String → String → Case
  no_base64 : String → Case
  refuses : String → Refusal → Case

abbrev pub Holds : Case → Type 0
Holds (an_int text z) = int_of (codes text) ≡ Some z
Holds (no_int text) = int_of (codes text) ≡ None
Holds (a_double text z scale) = double_of (codes text) ≡ Some (z, scale)
Holds (writes_double z scale text) = double_spelling z scale ≡ codes text
Holds (a_date text moment) = date_of (codes text) ≡ Some moment
Holds (no_date text) = date_of (codes text) ≡ None
Holds (a_base64 text bytes) = (is_base64 (codes text) ≡ true) × (decoded (codes text) ≡ codes bytes)
Holds (no_base64 text) = is_base64 (codes text) ≡ false
Holds (refuses message refusal) = rows_of (codes message) ≡ Err refusal

abbrev pub known_cases : List Case
known_cases =
    an_int "+0007" (pos 7)
    ∷ an_int "-2147483648" (negsuc 2147483647)
    ∷ no_int "2147483648"
    ∷ refuses "<methodResponse><fault><value><int>2147483648</int>" (BadText 35)
    ∷ a_double "-0.0" (pos 0) 0
    ∷ writes_double (pos 0) 0 "0.0"
    ∷ a_date "20000229T23:59:59" (record { year = 2000; month = 2; day = 29; hour = 23; minute = 59; second = 59 })
    ∷ no_date "19000229T00:00:00"
    ∷ a_base64 "SGVs" "Hel"
    ∷ no_base64 "IR=="
    ∷ refuses "" (Unfinished 0)
    ∷ refuses "<methodCall/>" (MisplacedTag 0)
    ∷ []

abbrev pub KnownCases : Type 0
KnownCases = AllByRecursion Holds known_cases
