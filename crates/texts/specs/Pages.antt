-- What a writer leaves on a page.
use Rattle.std.specs.Prelude.{◌≡◌, ℕ, ◌<◌, ◌≤◌, List, ◌++◌, length, drop, Option, MatchOption}

-- The text at the front of the page, the rest as before, and how long the text is;
-- or, where the page is too short for it, nothing, and the page as before.
abbrev pub Writes : List ℕ → List ℕ → List ℕ → Option ℕ → Type 0
Writes text old new written =
    MatchOption written ((length old < length text) × (new ≡ old))
    (λ n. (n ≡ length text) × (length text ≤ length old) × (new ≡ text ++ drop (length text) old))
