-- What the rows of a read message say: their texts as read.
use Rattle.std.specs.Prelude.{◌≡◌, ℕ, List, length, take, drop}
use Rattle.wire.specs.declared.kind.Kind.{Kind}
use Rattle.wire.specs.declared.kind.Kind.TheVariants as kind
use Rattle.wire.specs.declared.row.Row.{Row}
use Rattle.wire.specs.Trees.{Content}
use Rattle.base64_texts.specs.Base64 as base64
use Rattle.characters.specs.Decoding as characters
use Rattle.parts.specs.Cutting.{run, tag, Parts, ends, broken, ◌then◌}

-- a stored text as read: strings and member names with their references, base64 decoded, any other as it stands
abbrev pub read_as : Kind → List ℕ → List ℕ
read_as kind.Blank bs = bs
read_as kind.Call bs = bs
read_as kind.Response bs = bs
read_as kind.Fault bs = bs
read_as kind.Int bs = bs
read_as kind.Boolean bs = bs
read_as kind.String bs = characters.decoded bs
read_as kind.Double bs = bs
read_as kind.Date bs = bs
read_as kind.Base64 bs = base64.decoded bs
read_as kind.Struct bs = bs
read_as kind.Member bs = characters.decoded bs
read_as kind.Array bs = bs

-- the stored bytes of a row's text
abbrev pub stored_in : List ℕ → Row → List ℕ
stored_in msg r = take r.text.len (drop r.text.start msg)

abbrev pub content_of : List ℕ → Row → Content
content_of msg r = record { kind = r.kind; count = r.count; number = r.number; scale = r.scale; text = read_as r.kind (stored_in msg r) }

-- each run stands in the message at its place
abbrev pub InPlace : List ℕ → Parts → Type 0
InPlace msg ends = Unit {0}
InPlace msg (broken q) = Unit {0}
InPlace msg (run p r then ps) = (r ≡ take (length r) (drop p msg)) × InPlace msg ps
InPlace msg (tag q t then ps) = InPlace msg ps

-- a run before every tag, and one at the end
abbrev pub FromTag : Parts → Type 0
FromTag ends = Unit {0}
FromTag (broken q) = Unit {0}
FromTag (run p r then ps) = ⊥
FromTag (tag q t then ends) = ⊥
FromTag (tag q t then broken q') = ⊥
FromTag (tag q t then (tag q' t' then ps)) = ⊥
FromTag (tag q t then (run p r then ps)) = FromTag ps
