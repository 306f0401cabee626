use Rattle.std.proofs.Common.{◌≡◌, ◌+◌, ◌≤◌, length, drop}
use Rattle.std.specs.List.{prefix_len}
use Rattle.base64_texts.specs.Base64.{is_pad, nonblank}
use Rattle.base64_texts.proofs.pads_of.Given as goal

abbrev pub invariant-loop-byte : goal.invariant-loop-byte
invariant-loop-byte l =
    (l.pads ≤ l.byte-index)
    × (l.pads + prefix_len is_pad (nonblank (drop l.byte-index l.text)) ≡ prefix_len is_pad (nonblank l.text))
    × (l.pads + length (nonblank (drop l.byte-index l.text)) ≡ length (nonblank l.text))
