use Rattle.std.proofs.Common.{◌≡◌, ◌+◌, ◌++◌, length, take, drop}
use Rattle.characters.specs.Spelling.{characters_spelling}
use Rattle.characters.proofs.write.write_characters.Given as goal

abbrev pub invariant-loop-b : goal.invariant-loop-b
invariant-loop-b l =
    (l.at + length (characters_spelling (drop l.b-index l.plain)) ≡ l.len)
    × (l.page ≡ characters_spelling (take l.b-index l.plain) ++ drop l.at l.initial.page)
    × (l.at ≡ length (characters_spelling (take l.b-index l.plain)))
