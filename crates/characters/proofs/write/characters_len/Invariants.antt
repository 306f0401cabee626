use Rattle.std.proofs.Common.{◌≡◌, ◌+◌, length, drop}
use Rattle.characters.specs.Spelling.{characters_spelling}
use Rattle.characters.proofs.write.characters_len.Given as goal

abbrev pub invariant-loop-b : goal.invariant-loop-b
invariant-loop-b l = l.len + length (characters_spelling (drop l.b-index l.plain)) ≡ length (characters_spelling l.plain)
