use Rattle.std.proofs.Common.{◌++◌, refl}
use Rattle.std.proofs.Output.{has_written_append, has_written_of_eq}
use Rattle.hex_texts.proofs.write_byte.Goals as goal

pub returns : goal.returns
returns g c = λ p ok.
    let took = g.W.Write.write_str_gives in
    let one = c.in_ok-write_str.ensures.writes p refl in
    let two = c.write_str-2.ensures.writes one.plain ok in
    has_written_of_eq took _ _ _ _ (λ i. c.digit.ensures i ++ c.digit-2.ensures i) (has_written_append took _ _ _ _ _ one two)
