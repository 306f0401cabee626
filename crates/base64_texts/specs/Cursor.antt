-- What a cursor over a base64 text has still to give.
use Rattle.std.specs.Prelude.{ℕ, List, ◌∷◌, drop}
use Rattle.base64_texts.specs.Base64.{packed, sextets}
use Rattle.base64_texts.specs.declared.Decoded.{Decoded}
use Rattle.base64_texts.specs.declared.Held.{Held}
use Rattle.base64_texts.specs.declared.Held.TheVariants.{Nothing, Four, Two}

-- the bytes that more sextets make, after the low bits held of the sextet before them
abbrev pub goes_on : Held → List ℕ → List ℕ
goes_on Nothing ss = packed ss
goes_on (Four s) ss = drop 1 (packed (0 ∷ s ∷ ss))
goes_on (Two s) ss = drop 2 (packed (0 ∷ 0 ∷ s ∷ ss))

-- the sextets that a cursor has not read
abbrev pub ahead : Decoded → List ℕ
ahead d = sextets d.rest.now

-- the bytes that a cursor has still to give
abbrev pub left : Decoded → List ℕ
left d = goes_on d.held (ahead d)
