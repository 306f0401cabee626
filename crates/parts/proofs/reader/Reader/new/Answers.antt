use Rattle.std.proofs.Common.{sym, refl}
use Rattle.parts.specs.Readers.{parts_left}
use Rattle.parts.proofs.OneWay.{one_way}
use Rattle.parts.proofs.reader.Reader.new.Goals as goal

pub returns-in-Some : goal.returns-in-Some
unfolding parts_left
returns-in-Some c = record { parts = (c.in-Some.at, sym c.in-Some.ensures.value, refl, refl); one_way = one_way }

pub returns-in-None : goal.returns-in-None
returns-in-None c = record { parts = (sym c.in-None.ensures.value, refl); one_way = one_way }
