-- How a message is cut into its parts.
use Rattle.std.specs.Prelude.{◌≡◌, ℕ, zero, suc, ◌+◌, Bool, true, false, cond, not, List, [], ◌∷◌, ◌++◌, length, take, drop, Some, None, codes, Option, ◌==◌, ◌≢◌}
use Rattle.std.specs.List.{prefix_len, AllByRecursion}
use Rattle.texts.specs.Bytes.{is_blank}
use Rattle.parts.specs.declared.name.Name.{Name}
use Rattle.parts.specs.declared.tag.Tag.{Tag}
use Rattle.parts.specs.declared.tag.Tag.TheVariants.{Open, Close}
use Rattle.parts.specs.declared.tag.Spelling.{Spelling}
use Rattle.parts.specs.Names.{spelled}
use Rattle.parts.specs.Tags.{element_of, tag_of}

-- a run with its place and its bytes, or a tag with its place
pub data Piece : Type 0 where
  run : ℕ → List ℕ → Piece
  tag : ℕ → Tag → Piece

infixr 20 ◌then◌
-- the parts of a message in their order, up to its end or to a `<` that begins no tag, with its place
pub data Parts : Type 0 where
  ends : Parts
  broken : ℕ → Parts
  ◌then◌ : Piece → Parts → Parts

-- how many parts there are
abbrev pub part_count : Parts → ℕ
part_count ends = 0
part_count (broken q) = 0
part_count (p then ps) = 1 + part_count ps

-- no `<`
abbrev pub in_run : ℕ → Bool
in_run b = not (b == 60)

abbrev pub IsRun : List ℕ → Type 0
IsRun bs = AllByRecursion (λ b. in_run b ≡ true) bs

abbrev pub AreBlank : List ℕ → Type 0
AreBlank bs = AllByRecursion (λ b. is_blank b ≡ true) bs

-- how a tag is spelled behind its `<`, and whether it ends in `/>`
pub data Spells : Tag → Bool → List ℕ → Type 0 where
  opens : (n : Name) (blanks : List ℕ) → AreBlank blanks → Spells (Open n) false (spelled n ++ (blanks ++ codes ">"))
  opens_and_closes : (n : Name) (blanks : List ℕ) → AreBlank blanks → Spells (Open n) true (spelled n ++ (blanks ++ codes "/>"))
  closes : (n : Name) (blanks : List ℕ) → AreBlank blanks → Spells (Close n) false (47 ∷ (spelled n ++ (blanks ++ codes ">")))

-- from a place on, these bytes are these parts
pub data Cuts : ℕ → List ℕ → Parts → Type 0 where
  -- no `<` is left
  last_run : {p : ℕ} {r : List ℕ} → IsRun r → Cuts p r (run p r then ends)
  -- a `<` behind which no tag is spelled
  no_tag : {p : ℕ} (r bs : List ℕ) → IsRun r → ((t : Tag) (e : Bool) (s rest : List ℕ) → Spells t e s → bs ≢ s ++ rest) →
      Cuts p (r ++ (60 ∷ bs)) (run p r then broken (p + length r))
  -- a tag
  a_tag : {p : ℕ} (r s bs : List ℕ) {t : Tag} {ps : Parts} → IsRun r → Spells t false s → Cuts (p + length r + 1 + length s) bs ps →
      Cuts p (r ++ (60 ∷ (s ++ bs))) (run p r then tag (p + length r) t then ps)
  -- a tag in `/>` counts as the open tag, an empty run behind it, and the close tag at the open tag's place
  both_tags : {p : ℕ} (r s bs : List ℕ) {n : Name} {ps : Parts} → IsRun r → Spells (Open n) true s → Cuts (p + length r + 1 + length s) bs ps →
      Cuts p (r ++ (60 ∷ (s ++ bs)))
      (run p r then tag (p + length r) (Open n) then run (p + length r + 1 + length s) [] then tag (p + length r) (Close n) then ps)

-- the run that bytes begin with
abbrev pub run_at : List ℕ → List ℕ
run_at bs = take (prefix_len in_run bs) bs

-- what `/>` counts as behind its open tag: at a place, for a tag's place
abbrev pub emptied : Bool → Tag → ℕ → ℕ → Parts → Parts
emptied false t q p ps = ps
emptied true t q p ps = run p [] then tag q (Close (element_of t)) then ps

-- at a `<`, given the tag that it begins
abbrev pub tagged : ℕ → Option Spelling → (ℕ → Parts) → Parts
tagged q None next = broken q
tagged q (Some s) next = tag q s.tag then emptied s.empty s.tag q (q + 1 + s.len) (next s.len)

-- the parts behind a run that begins at or before a place; the first bytes there, so many, belong to the tag before
abbrev pub behind_run : ℕ → ℕ → List ℕ → Parts
behind_run p k [] = ends
behind_run p (suc k) (b ∷ bs) = behind_run (p + 1) k bs
behind_run p zero (b ∷ bs) =
    cond (in_run b) (behind_run (p + 1) 0 bs)
    (tagged p (tag_of bs) (λ n. run (p + 1 + n) (run_at (drop n bs)) then behind_run (p + 1) n bs))

-- the parts of bytes from a place on
unfoldable pub parts_from : ℕ → List ℕ → Parts
parts_from p bs = run p (run_at bs) then behind_run p 0 bs

-- the parts of bytes that a `<` begins, or of none
abbrev pub parts_at_tag : ℕ → List ℕ → Parts
parts_at_tag q [] = ends
parts_at_tag q (b ∷ bs) = tagged q (tag_of bs) (λ n. parts_from (q + 1 + n) (drop n bs))

-- bytes are cut in one way
abbrev pub CutInOneWay : ℕ → List ℕ → Type 0
CutInOneWay p bs = Cuts p bs (parts_from p bs) × ((ps : Parts) → Cuts p bs ps → ps ≡ parts_from p bs)
