-- The row that a run gives, by where it stands and the tag behind it.
use Rattle.std.specs.Prelude.{ℕ, ◌+◌, Bool, cond, List, length, ℤ, pos, Some, None, Ok, Err, Option, Result, ◌==◌}
use Rattle.std.specs.List.{prefix_len}
use Rattle.wire.specs.declared.kind.Kind.{Kind}
use Rattle.wire.specs.declared.kind.Kind.TheVariants as kind
use Rattle.wire.specs.declared.row.Store.TheVariants.{Message}
use Rattle.wire.specs.declared.row.Span.{Span}
use Rattle.wire.specs.declared.row.Row.{Row}
use Rattle.wire.specs.declared.refusal.Refusal.{Refusal}
use Rattle.wire.specs.declared.refusal.Refusal.TheVariants.{StrayText, BadReference, BadText}
use Rattle.wire.specs.Rows.{blank_row}
use Rattle.texts.specs.Bytes.{is_blank}
use Rattle.texts.specs.Booleans.{boolean_of}
use Rattle.texts.specs.Methods.{is_method_name}
use Rattle.numbers.specs.Ints.{int_of}
use Rattle.numbers.specs.Doubles.{double_of}
use Rattle.dates.specs.Moments.{date_of}
use Rattle.base64_texts.specs.Base64.{is_base64}
use Rattle.characters.specs.Checking.{counted}
use Rattle.characters.specs.declared.check.BadCharacters.{BadCharacters}
use Rattle.characters.specs.declared.check.BadCharacters.TheVariants.{Byte, Reference}
use Rattle.parts.specs.declared.tag.Tag.{Tag}
use Rattle.parts.specs.declared.tag.Tag.TheVariants.{Open, Close}
use Rattle.table.specs.declared.mode.Mode.{Mode}
use Rattle.table.specs.declared.mode.Mode.TheVariants.{Start, Call, Response, Value, Struct, Array, Finished}
use Rattle.table.specs.declared.mode.CallMode.{CallMode}
use Rattle.table.specs.declared.mode.CallMode.TheVariants as call
use Rattle.table.specs.declared.mode.ValueMode.{ValueMode}
use Rattle.table.specs.declared.mode.ValueMode.TheVariants as value
use Rattle.table.specs.declared.mode.Plain.{Plain}
use Rattle.table.specs.declared.mode.Plain.TheVariants as plain
use Rattle.table.specs.declared.mode.StructMode.{StructMode}
use Rattle.table.specs.declared.mode.StructMode.TheVariants as struct

-- a part of the message, by its place and length
abbrev pub span_at : ℕ → ℕ → Span
span_at p n = record { store = Message; start = p; len = n }

abbrev pub number_row : Kind → ℤ → ℕ → Row
number_row k z s = record { kind = k; count = 0; number = z; scale = s; text = span_at 0 0 }

abbrev pub text_row : Kind → ℕ → Span → Row
text_row k n text = record { kind = k; count = n; number = pos 0; scale = 0; text = text }

-- a run that must be blank gives no row
abbrev pub blank_run : ℕ → List ℕ → Result Row Refusal
blank_run p bs = cond (prefix_len is_blank bs == length bs) (Ok blank_row) (Err (StrayText (p + prefix_len is_blank bs)))

-- character data: its row, or its first bad reference
abbrev pub characters_by : Row → ℕ → Result ℕ BadCharacters → Result Row Refusal
characters_by row p (Ok n) = Ok row
characters_by row p (Err (Reference at)) = Err (BadReference (p + at))
characters_by row p (Err Byte) = Err (BadReference p)

abbrev pub characters_run : Kind → ℕ → ℕ → List ℕ → Result Row Refusal
characters_run k n p bs = characters_by (text_row k n (span_at p (length bs))) p (counted bs)

-- a text that has a value gives its row, any other breaks its form or range
abbrev pub by_value : {X : Type 0} → ℕ → Option X → (X → Row) → Result Row Refusal
by_value p (Some x) row = Ok (row x)
by_value p None row = Err (BadText p)

abbrev pub by_test : ℕ → Bool → Row → Result Row Refusal
by_test p good row = cond good (Ok row) (Err (BadText p))

-- the text of a plain value
abbrev pub plain_run : Plain → ℕ → List ℕ → Result Row Refusal
plain_run plain.Int p bs = by_value p (int_of bs) (λ z. number_row kind.Int z 0)
plain_run plain.I4 p bs = by_value p (int_of bs) (λ z. number_row kind.Int z 0)
plain_run plain.Boolean p bs = by_value p (boolean_of bs) (λ b. number_row kind.Boolean (pos (cond b 1 0)) 0)
plain_run plain.String p bs = characters_run kind.String 0 p bs
plain_run plain.Double p bs = by_value p (double_of bs) (λ d. number_row kind.Double d.0 d.1)
plain_run plain.Date p bs = by_value p (date_of bs) (λ m. text_row kind.Date 0 (span_at (p + prefix_len is_blank bs) 17))
plain_run plain.Base64 p bs = by_test p (is_base64 bs) (text_row kind.Base64 0 (span_at p (length bs)))

-- a value's run is a string before a close tag, and else blank
abbrev pub words_run : Tag → ℕ → List ℕ → Result Row Refusal
words_run (Open n) p bs = blank_run p bs
words_run (Close n) p bs = characters_run kind.String 0 p bs

abbrev pub call_run : CallMode → ℕ → List ℕ → Result Row Refusal
call_run call.Begun p bs = blank_run p bs
call_run call.Name p bs = by_test p (is_method_name bs) (text_row kind.Call 0 (span_at p (length bs)))
call_run call.Named p bs = blank_run p bs
call_run call.Params p bs = blank_run p bs
call_run call.Param p bs = blank_run p bs
call_run call.ParamDone p bs = blank_run p bs
call_run call.Done p bs = blank_run p bs

abbrev pub value_run : ValueMode → Tag → ℕ → List ℕ → Result Row Refusal
value_run value.Begun t p bs = words_run t p bs
value_run (value.Text plain) t p bs = plain_run plain p bs
value_run value.Typed t p bs = blank_run p bs

abbrev pub struct_run : StructMode → ℕ → List ℕ → Result Row Refusal
struct_run struct.Members p bs = blank_run p bs
struct_run struct.Member p bs = blank_run p bs
struct_run struct.Name p bs = characters_run kind.Member 1 p bs
struct_run struct.Named p bs = blank_run p bs
struct_run struct.MemberDone p bs = blank_run p bs

abbrev pub run_row : Mode → Tag → ℕ → List ℕ → Result Row Refusal
run_row Start t p bs = blank_run p bs
run_row (Call m) t p bs = call_run m p bs
run_row (Response m) t p bs = blank_run p bs
run_row (Value m) t p bs = value_run m t p bs
run_row (Struct m) t p bs = struct_run m p bs
run_row (Array m) t p bs = blank_run p bs
run_row Finished t p bs = blank_run p bs
