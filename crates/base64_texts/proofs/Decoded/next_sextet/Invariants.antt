use Rattle.std.proofs.Common.{◌≡◌, length}
use Rattle.base64_texts.specs.Cursor.{ahead}
use Rattle.base64_texts.proofs.Decoded.next_sextet.Given as goal

abbrev pub invariant-loop-byte : goal.invariant-loop-byte
invariant-loop-byte l = (ahead l.self ≡ ahead l.initial.self) × (l.self.held ≡ l.initial.self.held)

abbrev pub decreases-loop-byte : goal.decreases-loop-byte
decreases-loop-byte l = length l.self.rest.now
