use Rattle.std.specs.Fmt.{IsPlainFormatter, HasWritten}
use Rattle.hex_texts.specs.Hex.{hex_digits}
use Rattle.hex_texts.proofs.write_bytes.Given as goal

-- the bytes so far stand behind what was written before
abbrev pub invariant-loop-byte : goal.invariant-loop-byte
invariant-loop-byte g l = IsPlainFormatter l.initial.f → HasWritten g.W.Write.write_str_gives l.initial.f (hex_digits l.yielded) l.f
