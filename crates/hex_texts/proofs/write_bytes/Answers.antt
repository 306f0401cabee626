use Rattle.std.proofs.Common.{[], ◌∷◌, sym, refl, ap, subst}
use Rattle.std.specs.Iterator.{Yields}
use Rattle.std.proofs.Output.{has_written_of_eq, has_written_append}
use Rattle.texts.proofs.Drained.{drained}
use Rattle.hex_texts.specs.Hex.{hex_text}
use Rattle.hex_texts.proofs.Digits.{hex_digits-append}
use Rattle.hex_texts.proofs.write_bytes.Goals as goal

pub loop-byte-preserved : goal.loop-byte-preserved
loop-byte-preserved g c = λ p.
    let took = g.W.Write.write_str_gives in
    let before = c.loop-byte.invariant p in
    let more = c.in_ok-write_byte-2.ensures before.plain refl in
    has_written_of_eq took _ _ _ _ (sym (hex_digits-append c.loop-byte.yielded (c.in-Some-byte.byte ∷ []))) (has_written_append took _ _ _ _ _ before more)

pub returns : goal.returns
returns g c = λ p ok.
    let took = g.W.Write.write_str_gives in
    let same = c.into_iter-byte-iterator.ensures.into_iter_gives in
    let others = subst (λ it. Yields g.S.Iterator.next_gives it c.loop-byte.yielded c.loop-byte.byte-iterator) same c.loop-byte.yielded_by in
    let all = c.in-Some.first ∷ c.loop-byte.yielded in
    let came = drained _ _ _ _ g.met.S.Stream.laws c.args.bytes all (_, (c.loop-byte.byte-iterator, (_, c.in-Some.ensures.steps, others), c.in-None.ensures.steps)) in
    let one = c.in_ok-write_byte.ensures p refl in
    has_written_of_eq took _ _ _ _ (ap hex_text came) (has_written_append took _ _ _ _ _ one (c.loop-byte.invariant one.plain))
