-- The tag that bytes begin with.
use Rattle.std.specs.Prelude.{◌≡◌, ℕ, ◌+◌, ◌≤◌, Bool, true, false, cond, not, ◌&&◌, ◌||◌, List, length, take, drop, Some, None, Option, ◌==◌, slice_index}
use Rattle.std.specs.List.{prefix_len}
use Rattle.std.specs.Str.{bytes_eq}
use Rattle.texts.specs.Bytes.{is_blank}
use Rattle.parts.specs.declared.name.Name.{Name}
use Rattle.parts.specs.declared.tag.Tag.{Tag}
use Rattle.parts.specs.declared.tag.Tag.TheVariants.{Open, Close}
use Rattle.parts.specs.declared.tag.Spelling.{Spelling}
use Rattle.parts.specs.Names.{spelled, likely}

-- the name of the element that a tag opens or closes
abbrev pub element_of : Tag → Name
element_of (Open n) = n
element_of (Close n) = n

-- the name that bytes spell
unfoldable pub named : List ℕ → Option Name
named bs = cond (bytes_eq bs (spelled (likely bs))) (Some (likely bs)) None

-- a byte that does not end a name: neither blank nor `/`, `>` or `<`
abbrev pub in_name : ℕ → Bool
in_name b = not (is_blank b || (b == 47 || (b == 62 || b == 60)))

-- how long the name at the front is, and where the blanks behind it end
abbrev pub name_len : List ℕ → ℕ
name_len bs = prefix_len in_name bs

abbrev pub name_end : List ℕ → ℕ
name_end bs = name_len bs + prefix_len is_blank (drop (name_len bs) bs)

-- this name is at the front, and the blanks behind it end there
abbrev pub AtFront : List ℕ → Name × ℕ → Type 0
AtFront bs p = (named (take (name_len bs) bs) ≡ Some p.0) × (p.1 ≡ name_end bs) × (p.1 ≤ length bs)

abbrev pub spelling : Tag → Bool → ℕ → Spelling
spelling t e n = record { tag = t; empty = e; len = n }

-- behind the name: `>`
abbrev pub close_by : Option Name → ℕ → ℕ → Option Spelling
close_by None n c = None
close_by (Some x) n c = cond (c == 62) (Some (spelling (Close x) false (n + 2))) None

-- behind the name: `>` or `/>`
abbrev pub open_by : Option Name → ℕ → ℕ → ℕ → Option Spelling
open_by None n c d = None
open_by (Some x) n c d =
    cond (c == 62) (Some (spelling (Open x) false (n + 1)))
    (cond (c == 47 && d == 62) (Some (spelling (Open x) true (n + 2))) None)

-- the close tag that bytes behind `</` begin with
abbrev pub close_tag : List ℕ → Option Spelling
close_tag bs = close_by (named (take (name_len bs) bs)) (name_end bs) (slice_index bs (name_end bs))

-- the open tag that bytes behind `<` begin with
abbrev pub open_tag : List ℕ → Option Spelling
open_tag bs = open_by (named (take (name_len bs) bs)) (name_end bs) (slice_index bs (name_end bs)) (slice_index bs (name_end bs + 1))

-- the tag that bytes behind `<` begin with: which, whether it ends in `/>`, and how many of them it takes
unfoldable pub tag_of : List ℕ → Option Spelling
tag_of bs = cond (slice_index bs 0 == 47) (close_tag (drop 1 bs)) (open_tag bs)
