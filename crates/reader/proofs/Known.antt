-- The known cases, computed.
use Rattle.std.proofs.Common.{refl}
use Rattle.std.specs.Fmt.{digits}
use Rattle.parts.specs.Cutting.{parts_from}
use Rattle.parts.specs.Declarations.{declaration_len}
use Rattle.parts.specs.Tags.{named, tag_of}
use Rattle.reader.specs.KnownCases.{KnownCases}
use Rattle.reader.specs.Reading.{rows_of}

pub known_cases_lem : KnownCases
unfolding rows_of parts_from declaration_len named tag_of digits
known_cases_lem = (refl, (refl, (refl, (refl, (refl, (refl, (refl, (refl, ((refl, refl), (refl, (refl, (refl, tt))))))))))))
