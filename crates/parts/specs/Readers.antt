-- What a reader has still to give.
use Rattle.std.specs.Prelude.{◌≡◌, ℕ, ◌+◌, ◌-◌, ◌≤◌, List, [], length, take, drop, Some, None, Ok, Err, Option, Result}
use Rattle.wire.specs.declared.refusal.Refusal.{Refusal}
use Rattle.wire.specs.declared.refusal.Refusal.TheVariants.{NotATag, OpenDeclaration}
use Rattle.parts.specs.declared.tag.Tag.TheVariants as tags
use Rattle.parts.specs.declared.reader.Part.{Part}
use Rattle.parts.specs.declared.reader.Token.{Token}
use Rattle.parts.specs.declared.reader.Token.TheVariants as token
use Rattle.parts.specs.declared.reader.Next.{Next}
use Rattle.parts.specs.declared.reader.Next.TheVariants as next
use Rattle.parts.specs.declared.reader.Reader.{Reader}
use Rattle.parts.specs.Declarations.{declaration_len}
use Rattle.parts.specs.Cutting.{Piece, run, tag, Parts, ends, broken, ◌then◌, parts_from, parts_at_tag}

-- the part of a message that a token is
abbrev pub piece_of : Token → Piece
piece_of (token.Open name part) = tag part.place (tags.Open name)
piece_of (token.Close name part) = tag part.place (tags.Close name)
piece_of (token.Run part) = run part.place part.bytes.now

-- the parts to come, by what comes next, at a place with the bytes from there on
abbrev pub parts_by : Next → ℕ → List ℕ → Parts
parts_by next.Run p bs = parts_from p bs
parts_by next.Tag p bs = parts_at_tag p bs
parts_by (next.EmptyRun t) p bs = run p [] then tag t.place (tags.Close t.name) then parts_from p bs
parts_by (next.Close t) p bs = tag t.place (tags.Close t.name) then parts_from p bs

unfoldable pub parts_left : Reader → Parts
parts_left r = parts_by r.next r.at (drop r.at r.message.now)

-- a run does not reach past the end of a message of so many bytes
abbrev pub RunInside : ℕ → Result (Option Token) Refusal → Type 0
RunInside n (Ok (Some (token.Open name part))) = Unit {0}
RunInside n (Ok (Some (token.Close name part))) = Unit {0}
RunInside n (Ok (Some (token.Run part))) = part.place + length part.bytes.now ≤ n
RunInside n (Ok None) = Unit {0}
RunInside n (Err e) = Unit {0}

-- the part of a message that a token borrows
abbrev pub part_of : Token → Part
part_of (token.Open name part) = part
part_of (token.Close name part) = part
part_of (token.Run part) = part

-- the bytes of a part are those of the message from its place up to where the reader stands behind it
abbrev pub Borrows : Reader → Part → Type 0
Borrows r part = part.bytes.now ≡ take (r.at - part.place) (drop part.place r.message.now)

abbrev pub TokenBorrows : Reader → Result (Option Token) Refusal → Type 0
TokenBorrows r (Ok (Some t)) = Borrows r (part_of t)
TokenBorrows r (Ok None) = Unit {0}
TokenBorrows r (Err e) = Unit {0}

-- a reader starts behind the declaration, with all parts from there on; an open declaration is refused
abbrev pub Begins : List ℕ → Result Reader Refusal → Type 0
Begins msg (Ok r) = (n : ℕ) × (declaration_len msg ≡ Some n) × (r.message.now ≡ msg) × (parts_left r ≡ parts_from n (drop n msg))
Begins msg (Err e) = (declaration_len msg ≡ None) × (e ≡ OpenDeclaration)

-- what a reader gives is the first of the parts that were left; or none is left; or a `<` begins no tag
abbrev pub Gives : Parts → Result (Option Token) Refusal → Parts → Type 0
Gives old (Ok (Some t)) new = old ≡ piece_of t then new
Gives old (Ok None) new = (old ≡ ends) × (new ≡ old)
Gives old (Err e) new = (place : ℕ) × (old ≡ broken place) × (e ≡ NotATag place) × (new ≡ old)
