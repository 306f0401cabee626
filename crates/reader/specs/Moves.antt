-- What a tag does with the run before it.
use Rattle.std.specs.Prelude.{Some, None, Option}
use Rattle.table.specs.declared.mode.Move.{Move}
use Rattle.table.specs.declared.mode.Move.TheVariants as move

-- the tag leaves the run alone, or the grammar has no such tag there
abbrev pub LeavesRow : Option Move → Type 0
LeavesRow None = Unit {0}
LeavesRow (Some (move.Enter m)) = Unit {0}
LeavesRow (Some (move.Emit m)) = ⊥
LeavesRow (Some move.Word) = ⊥
LeavesRow (Some move.Leave) = Unit {0}
LeavesRow (Some (move.Nest s)) = Unit {0}
LeavesRow (Some move.Unnest) = Unit {0}
LeavesRow (Some move.Name) = ⊥
LeavesRow (Some move.Fault) = Unit {0}
