-- The reading of a message's parts, step by step: its rows, or the first refusal.
use Rattle.std.specs.Prelude.{ℕ, zero, suc, ◌+◌, Bool, true, false, cond, List, [], ◌∷◌, length, Some, None, Ok, Err, Option, Result, nat_lt}
use Rattle.wire.specs.declared.kind.Kind.{Kind}
use Rattle.wire.specs.declared.kind.Kind.TheVariants as kind
use Rattle.wire.specs.declared.row.Row.{Row}
use Rattle.wire.specs.declared.row.Span.{Span}
use Rattle.wire.specs.declared.refusal.Refusal.{Refusal}
use Rattle.wire.specs.declared.refusal.Refusal.TheVariants.{Unfinished, NotATag, MisplacedTag, TooDeep}
use Rattle.wire.specs.Rows.{blank_row}
use Rattle.parts.specs.declared.tag.Tag.{Tag}
use Rattle.parts.specs.Cutting.{run, tag, Parts, ends, broken, ◌then◌}
use Rattle.table.specs.declared.mode.Mode.{Mode}
use Rattle.table.specs.declared.mode.Mode.TheVariants.{Start, Call, Response, Value, Struct, Array, Finished}
use Rattle.table.specs.declared.mode.CallMode.TheVariants as call
use Rattle.table.specs.declared.mode.ResponseMode.TheVariants as response
use Rattle.table.specs.declared.mode.ValueMode.TheVariants as value
use Rattle.table.specs.declared.mode.StructMode.TheVariants as struct
use Rattle.table.specs.declared.mode.ArrayMode.TheVariants as array
use Rattle.table.specs.declared.mode.Shape.{Shape}
use Rattle.table.specs.declared.mode.Shape.TheVariants as shape
use Rattle.table.specs.declared.mode.Move.{Move}
use Rattle.table.specs.declared.mode.Move.TheVariants as move
use Rattle.table.specs.Entries.{lookup, entries}
use Rattle.reader.specs.declared.frame.Frame.{Frame}
use Rattle.reader.specs.Runs.{run_row, blank_run, text_row, span_at}

-- where the reading stands, what is open, the innermost first, how many rows there are, and the rows
pub data St : Type 0 where
  st : Mode → List Frame → ℕ → List Row → St

abbrev pub and_then : {A B E : Type 0} → Result A E → (A → Result B E) → Result B E
and_then (Ok x) f = f x
and_then (Err e) f = Err e

abbrev pub frame : Shape → ℕ → ℕ → Span → Frame
frame s r n name = record { shape = s; row = r; count = n; name = name }

-- where what holds values begins, where it goes on behind a value, and where the reading goes on behind it
abbrev pub inside_of : Shape → Mode
inside_of shape.Call = Call call.Begun
inside_of shape.Response = Response response.Begun
inside_of shape.Fault = Response response.Fault
inside_of shape.Struct = Struct struct.Members
inside_of shape.Array = Array array.Begun

abbrev pub after_of : Shape → Mode
after_of shape.Call = Call call.ParamDone
after_of shape.Response = Response response.ParamDone
after_of shape.Fault = Response response.FaultDone
after_of shape.Struct = Struct struct.MemberDone
after_of shape.Array = Array array.Data

abbrev pub past_of : Shape → Mode
past_of shape.Call = Finished
past_of shape.Response = Finished
past_of shape.Fault = Finished
past_of shape.Struct = Value value.Typed
past_of shape.Array = Value value.Typed

abbrev pub kind_of : Shape → Kind
kind_of shape.Call = kind.Call
kind_of shape.Response = kind.Response
kind_of shape.Fault = kind.Fault
kind_of shape.Struct = kind.Struct
kind_of shape.Array = kind.Array

-- the row of what held values and is closed
abbrev pub holder_row : Frame → Row
holder_row f = text_row (kind_of f.shape) f.count f.name

-- a value is closed: what holds it has one more
abbrev pub leave : List Frame → ℕ → List Row → St
leave [] u rs = st Finished [] u rs
leave (f ∷ fs) u rs = st (after_of f.shape) (frame f.shape f.row (f.count + 1) f.name ∷ fs) u rs

-- the message, and at most sixteen structs and arrays in it
abbrev pub room_for : List Frame → Bool
room_for fs = nat_lt (length fs) 17

-- how a row is put at an index
module _ (put : List Row → ℕ → Row → List Row) where
  abbrev pub nest : Bool → Shape → List Frame → ℕ → ℕ → List Row → Result St Refusal
  nest true s fs q u rs = Ok (st (inside_of s) (frame s u 0 (span_at 0 0) ∷ fs) (u + 1) (put rs u blank_row))
  nest false s fs q u rs = Err (TooDeep q)

  abbrev pub unnest : List Frame → ℕ → ℕ → List Row → Result St Refusal
  unnest [] q u rs = Err (MisplacedTag q)
  unnest (f ∷ fs) q u rs = Ok (st (past_of f.shape) fs u (put rs f.row (holder_row f)))

  -- the method's name
  abbrev pub named : List Frame → ℕ → Row → ℕ → List Row → Result St Refusal
  named [] q r u rs = Err (MisplacedTag q)
  named (f ∷ fs) q r u rs = Ok (st (Call call.Named) (frame f.shape f.row f.count r.text ∷ fs) u rs)

  -- the response is a fault
  abbrev pub faulted : List Frame → ℕ → ℕ → List Row → Result St Refusal
  faulted [] q u rs = Err (MisplacedTag q)
  faulted (f ∷ fs) q u rs = Ok (st (Response response.Fault) (frame shape.Fault f.row f.count f.name ∷ fs) u rs)

  -- what a tag at a place does, with the row of the run before it
  abbrev pub act : Option Move → ℕ → Row → List Frame → ℕ → List Row → Result St Refusal
  act None q r fs u rs = Err (MisplacedTag q)
  act (Some (move.Enter m)) q r fs u rs = Ok (st m fs u rs)
  act (Some (move.Emit m)) q r fs u rs = Ok (st m fs (u + 1) (put rs u r))
  act (Some move.Word) q r fs u rs = Ok (leave fs (u + 1) (put rs u r))
  act (Some move.Leave) q r fs u rs = Ok (leave fs u rs)
  act (Some (move.Nest s)) q r fs u rs = nest (room_for fs) s fs q u rs
  act (Some move.Unnest) q r fs u rs = unnest fs q u rs
  act (Some move.Name) q r fs u rs = named fs q r u rs
  act (Some move.Fault) q r fs u rs = faulted fs q u rs

  -- a run and the tag behind it: the run's check first, then the tag's
  abbrev pub step : St → ℕ → List ℕ → ℕ → Tag → Result St Refusal
  step (st m fs u rs) p r q t = and_then (run_row m t p r) (λ row. act (lookup t (entries m)) q row fs u rs)

  abbrev pub is_finished : Mode → Bool
  is_finished Start = false
  is_finished (Call m) = false
  is_finished (Response m) = false
  is_finished (Value m) = false
  is_finished (Struct m) = false
  is_finished (Array m) = false
  is_finished Finished = true

  -- the end of a message of so many bytes, behind a run
  abbrev pub finish : St → ℕ → List ℕ → ℕ → Result St Refusal
  finish (st m fs u rs) p r len = cond (is_finished m) (and_then (blank_run p r) (λ _. Ok (st m fs u rs))) (Err (Unfinished len))

  -- the parts behind a run, in a message of so many bytes
  abbrev pub judge : St → ℕ → List ℕ → Parts → ℕ → Result St Refusal
  judge s p r ends len = finish s p r len
  judge s p r (broken q) len = Err (NotATag q)
  judge s p r (run p' r' then ps) len = judge s p' r' ps len
  judge s p r (tag q t then ps) len = and_then (step s p r q t) (λ s'. judge s' 0 [] ps len)

-- a row put at an index, at most one past the end
abbrev pub put_at : List Row → ℕ → Row → List Row
put_at [] n r = r ∷ []
put_at (x ∷ xs) zero r = r ∷ xs
put_at (x ∷ xs) (suc n) r = x ∷ put_at xs n r
