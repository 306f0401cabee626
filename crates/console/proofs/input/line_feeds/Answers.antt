use Rattle.std.proofs.Common.{◌≡◌, ◌+◌, ◌≤◌, Bool, true, false, cond, eqb, get_or, take, count_by, refl, ap, ◌∙◌, arith}
use mir.Val.{bool_byte}
use Rattle.std.proofs.lemmas.List.{take_all}
use Rattle.std.proofs.lemmas.List.Sums.{sum_by_more}
use Rattle.console.proofs.input.line_feeds.Goals as goal

-- a flag counts as one or as nothing
flag_is : (b : Bool) → (bool_byte b ≡ cond b 1 0) × (cond b 1 0 ≤ 1)
flag_is true = (refl, omega arith)
flag_is false = (refl, omega arith)

pub loop-byte-preserved : goal.loop-byte-preserved
loop-byte-preserved c =
    let bytes = c.args.bytes.now in
    let i = c.loop-byte.byte-index in
    let more : count_by (λ b. eqb b 10) (take (i + 1) bytes) ≡ count_by (λ b. eqb b 10) (take i bytes) + cond (eqb (get_or bytes i 0) 10) 1 0 = sum_by_more (λ b. cond (eqb b 10) 1 0) bytes i 0 (omega arith) in
    let flag = flag_is (eqb (get_or bytes i 0) 10) in
    (omega (arith, c.loop-byte.invariant.0, more, c.from-count.ensures, flag.0), omega (arith, c.loop-byte.invariant.1, c.from-count.ensures, flag.0, flag.1))

pub returns : goal.returns
returns c = c.loop-byte.invariant.0 ∙ ap (count_by (λ b. eqb b 10)) (take_all c.loop-byte.byte-index c.args.bytes.now (omega arith))
