-- The lines that ask for each command.
use Rattle.std.specs.Prelude.{◌≡◌, ℕ, List, [], ◌∷◌, ◌++◌, codes}
use Rattle.commands.specs.declared.command.Command.{Command}
use Rattle.commands.specs.declared.command.Command.TheVariants.{Read}
use Rattle.commands.specs.Numbers.{Spaced}

-- a line that is a word and these numbers
abbrev pub Says : List ℕ → List ℕ → List ℕ → Type 0
Says word numbers line = (rest : List ℕ) × (line ≡ word ++ rest) × Spaced rest numbers

-- a line that asks for a command
abbrev pub Asks : Command → List ℕ → Type 0
Asks (Read level length) line = Says (codes "read") (level ∷ length ∷ []) line
