use Rattle.std.proofs.Common.{length}
use Rattle.base64_texts.specs.Base64.{sextet}
use Rattle.base64_texts.proofs.Scan.{Scanned}
use Rattle.base64_texts.proofs.front_of.Given as goal

abbrev pub invariant-loop-byte : goal.invariant-loop-byte
invariant-loop-byte l = Scanned l.text l.count (sextet l.last) l.rest

abbrev pub decreases-loop-byte : goal.decreases-loop-byte
decreases-loop-byte l = length l.rest
