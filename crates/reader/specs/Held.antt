-- What a machine in the program stands for.
use Rattle.std.specs.Prelude.{◌≡◌, ℕ, ◌+◌, ◌≤◌, Ok, Err, Result}
use Rattle.wire.specs.declared.refusal.Refusal.{Refusal}
use Rattle.reader.specs.declared.machine.Machine.{Machine}
use Rattle.reader.specs.Steps.{St, st}

-- the state that a machine is in
abbrev pub state : Machine → St
state m = st m.mode m.stack m.used m.rows.now

-- the state, where nothing was refused
abbrev pub outcome : {A : Type 0} → Result A Refusal → St → Result St Refusal
outcome (Ok x) s = Ok s
outcome (Err e) s = Err e

-- what a move that should come out as `out` leaves, at most n steps on
pub record Turn {A : Type 0} (n : ℕ) (m : Machine) (out : Result St Refusal) (r : Result A Refusal) (m' : Machine) : Type 0 where
  pub same_rows : m'.rows.ghost_name ≡ m.rows.ghost_name
  pub tick : m'.steps ≤ m.steps + n
  pub does : out ≡ outcome r (state m')
