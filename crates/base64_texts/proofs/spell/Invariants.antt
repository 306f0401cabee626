use Rattle.std.proofs.Common.{◌≡◌, ◌+◌, ◌++◌, length, take, drop}
use Rattle.std.specs.Slice.Iter.{chunks_rest, chunks_size}
use Rattle.base64_texts.specs.Base64.{base64_spelling}
use Rattle.base64_texts.proofs.spell.Given as goal

abbrev pub invariant-loop-group : goal.invariant-loop-group
invariant-loop-group l =
    (take l.to l.page ++ base64_spelling (chunks_rest l.group-iterator) ≡ base64_spelling l.bytes)
    × (drop l.to l.page ≡ drop l.to l.initial.page)
    × (l.to + length (base64_spelling (chunks_rest l.group-iterator)) ≡ length (base64_spelling l.bytes))
    × (chunks_size l.group-iterator ≡ 3)
