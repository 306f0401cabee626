-- What is open in a message, as a list.
use Rattle.std.specs.Prelude.{ℕ, zero, suc, List, [], ◌∷◌, slice_index_or}
use Rattle.reader.specs.declared.frame.Frame.{Frame}
use Rattle.table.specs.declared.mode.Shape.TheVariants as shape
use Rattle.reader.specs.Runs.{span_at}
use Rattle.reader.specs.Steps.{frame}

-- a frame that is not in use
abbrev pub no_frame : Frame
no_frame = frame shape.Call 0 0 (span_at 0 0)

-- the first d frames, the last of them first
abbrev pub stack_of : List Frame → ℕ → List Frame
stack_of xs zero = []
stack_of xs (suc d) = slice_index_or xs d no_frame ∷ stack_of xs d
