-- What writing at a place of a page leaves.
use Rattle.std.specs.Prelude.{◌≡◌, ℕ, ◌+◌, ◌-◌, ◌^◌, ◌<◌, ◌≤◌, min, max, List, ◌++◌, length, take, drop}
use Rattle.writer.specs.declared.pen.Pen.{Pen}

-- a page with bytes in place of as many of its own
abbrev pub pasted : List ℕ → ℕ → List ℕ → List ℕ
pasted page at bytes = take at page ++ (bytes ++ drop (at + length bytes) page)

-- the place behind so many bytes, or the last that a machine can count to; none in front of where it began
abbrev pub reached : ℕ → ℕ → ℕ
reached at n = max at (min (at + n) (2 ^ 64 - 1))

-- bytes were put at a pen's place: it is behind them now, and where the page reaches so far they stand on it and the rest is as before
pub record Put (old : Pen) (bytes : List ℕ) (new : Pen) : Type 0 where
  pub same_page : new.page.ghost_name ≡ old.page.ghost_name
  pub long : length new.page.now ≡ length old.page.now
  pub place : new.place ≡ reached old.place (length bytes)
  pub stands : length old.page.now < 2 ^ 64 → old.place + length bytes ≤ length old.page.now → new.page.now ≡ pasted old.page.now old.place bytes
