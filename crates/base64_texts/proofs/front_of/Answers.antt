use Rattle.std.proofs.Common.{◌∷◌, sym, ◌∙◌, subst, rules}
use Rattle.base64_texts.specs.Base64.{sextet}
use Rattle.base64_texts.proofs.Scan.{Scanned, scanned_letter}
use Rattle.base64_texts.proofs.front_of.Goals as goal

pub loop-byte-preserved-then-is_letter : goal.loop-byte-preserved-then-is_letter
loop-byte-preserved-then-is_letter c =
    let text = c.args.text.now in
    let count = c.loop-byte.count in
    let here = subst (Scanned text count (sextet c.loop-byte.last)) {y = c.in-Some.byte.now ∷ c.in-Some.behind.now} (search rules) c.loop-byte.invariant in
    scanned_letter text count (sextet c.loop-byte.last) c.in-Some.byte.now c.in-Some.behind.now here (sym c.is_letter.ensures ∙ c.if-is_letter.true)
