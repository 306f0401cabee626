-- Where the texts of rows lie, and what rows say.
use Rattle.std.specs.Prelude.{ℕ, List, map, take, drop}
use Rattle.wire.specs.declared.row.Store.{Store}
use Rattle.wire.specs.declared.row.Store.TheVariants as store
use Rattle.wire.specs.declared.row.Span.{Span}
use Rattle.wire.specs.declared.row.Row.{Row}
use Rattle.wire.specs.Trees.{Content}
use Rattle.reader.specs.Contents.{read_as}

-- the memory that a span lies in
abbrev pub memory_of : List ℕ → List ℕ → Store → List ℕ
memory_of msg ink store.Message = msg
memory_of msg ink store.Ink = ink

-- the stored bytes of a text
abbrev pub stored_at : List ℕ → List ℕ → Span → List ℕ
stored_at msg ink span = take span.len (drop span.start (memory_of msg ink span.store))

-- a row's text: in the message as it is read there, in the ink as it stands
abbrev pub text_by : Store → Row → List ℕ → List ℕ
text_by store.Message r bs = read_as r.kind bs
text_by store.Ink r bs = bs

abbrev pub said_by : List ℕ → List ℕ → Row → Content
said_by msg ink r = record { kind = r.kind; count = r.count; number = r.number; scale = r.scale; text = text_by r.text.store r (stored_at msg ink r.text) }

-- what rows over a message and ink say
unfoldable pub sayings : List ℕ → List ℕ → List Row → List Content
sayings msg ink rows = map (said_by msg ink) rows
