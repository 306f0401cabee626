-- The reading of a whole message, and what the code that reads it leaves.
use Rattle.std.specs.Prelude.{◌≡◌, ℕ, ◌+◌, ◌^◌, ◌<◌, ◌≤◌, cond, List, [], ◌∷◌, length, drop, replicate, Some, None, Ok, Err, Option, Result, ◌==◌, nat_le, nat_lt, slice_set}
use Rattle.std.specs.List.{prefix_len}
use Rattle.wire.specs.declared.row.Row.{Row}
use Rattle.wire.specs.declared.refusal.Refusal.{Refusal}
use Rattle.wire.specs.declared.refusal.Refusal.TheVariants.{MessageTooLong, BadByte, OpenDeclaration, TooManyRows}
use Rattle.wire.specs.Rows.{blank_row}
use Rattle.characters.specs.References.{is_character}
use Rattle.parts.specs.declared.reader.Token.{Token}
use Rattle.parts.specs.declared.reader.Token.TheVariants as token
use Rattle.parts.specs.Cutting.{Parts, ◌then◌, parts_from}
use Rattle.parts.specs.Declarations.{declaration_len}
use Rattle.parts.specs.Readers.{piece_of}
use Rattle.table.specs.declared.mode.Mode.TheVariants.{Start}
use Rattle.reader.specs.declared.run.Run.{Run}
use Rattle.reader.specs.declared.machine.Machine.{Machine}
use Rattle.reader.specs.Steps.{St, st, judge, put_at}
use Rattle.reader.specs.Held.{state}

-- the parts behind the declaration, read over rows
abbrev pub read_from : (List Row → ℕ → Row → List Row) → List ℕ → List Row → Option ℕ → Result St Refusal
read_from put msg rs None = Err OpenDeclaration
read_from put msg rs (Some n) = judge put (st Start [] 0 rs) 0 [] (parts_from n (drop n msg)) (length msg)

abbrev pub reading : (List Row → ℕ → Row → List Row) → List ℕ → List Row → Result St Refusal
reading put msg rs = read_from put msg rs (declaration_len msg)

-- what is answered, and left in the rows, by a reading that comes out so
abbrev pub Said : Result St Refusal → Result ℕ Refusal → List Row → Type 0
Said (Ok (st m fs u rs)) r left = (r ≡ Ok u) × (left ≡ rs)
Said (Err e) r left = r ≡ Err e

-- how a reading goes on with a run in hand, unless it was refused
abbrev pub goes_on : Result Run Refusal → St → Parts → ℕ → Result St Refusal
goes_on (Ok part) s ps len = judge slice_set s part.place part.bytes.now ps len
goes_on (Err e) s ps len = Err e

-- places of a run that fit a row, where the token is one
abbrev pub ShortRun : Token → Type 0
ShortRun (token.Open name part) = Unit {0}
ShortRun (token.Close name part) = Unit {0}
ShortRun (token.Run part) = part.place + length part.bytes.now < 2 ^ 32

-- what a machine that is fed a token, with a run in hand, leaves
pub record Fed (m : Machine) (run : Run) (t : Token) (r : Result Run Refusal) (m' : Machine) : Type 0 where
  pub same_rows : m'.rows.ghost_name ≡ m.rows.ghost_name
  pub tick : m'.steps ≤ m.steps + 2
  pub does : (ps : Parts) (len : ℕ) → judge slice_set (state m) run.place run.bytes.now (piece_of t then ps) len ≡ goes_on r (state m') ps len

-- rows laid over lent ones: those that have no place are left out, and what is past them stays
abbrev pub laid : List Row → List Row → List Row
laid [] old = old
laid (r ∷ rs) [] = []
laid (r ∷ rs) (x ∷ old) = r ∷ laid rs old

abbrev pub rows_in : Result St Refusal → Result (List Row) Refusal
rows_in (Ok (st m fs u rs)) = Ok rs
rows_in (Err e) = Err e

-- the rows of a message, or its first refusal: its length, its bytes, its declaration, and then step by step
unfoldable pub rows_of : List ℕ → Result (List Row) Refusal
rows_of msg =
    cond (nat_lt 65536 (length msg)) (Err MessageTooLong)
    (cond (prefix_len is_character msg == length msg) (rows_in (reading put_at msg []))
    (Err (BadByte (prefix_len is_character msg))))

-- what is answered with room for so many rows
abbrev pub within : ℕ → Result (List Row) Refusal → Result ℕ Refusal
within room (Ok rs) = cond (nat_le (length rs) room) (Ok (length rs)) (Err TooManyRows)
within room (Err e) = Err e

-- the lent rows behind an answer: the message's rows laid over them, or, where it was refused, all blank
abbrev pub left_by : Result ℕ Refusal → Result (List Row) Refusal → List Row → List Row
left_by (Ok n) (Ok rs) old = laid rs old
left_by (Ok n) (Err e) old = old
left_by (Err e) out old = replicate (length old) blank_row
