-- How many messages came to what.
use Rattle.std.specs.Prelude.{ℕ, ◌+◌, ◌-◌, ◌^◌, min, cond, List, [], ◌∷◌, ◌++◌, codes, decimal, ◌==◌, slice_index, slice_set}
use Rattle.wire.specs.declared.refusal.Refusal.{Refusal}
use Rattle.wire.specs.Refusals.{told}
use Rattle.totals.specs.declared.Totals.{Totals}

-- one more, up to the largest number
abbrev pub one_more : ℕ → ℕ
one_more n = min (n + 1) (2 ^ 64 - 1)

-- a message more, which was accepted
abbrev pub accepting : Totals → Totals
accepting t = record { messages = one_more t.messages; accepted = one_more t.accepted; refused = t.refused }

-- a message more, which was refused: the refusals of its number stand one place before that number
abbrev pub refusing : Refusal → Totals → Totals
refusing refusal t = record {
  messages = one_more t.messages;
  accepted = t.accepted;
  refused = slice_set t.refused ((told refusal).0 - 1) (one_more (slice_index t.refused ((told refusal).0 - 1)));
}

-- how many were refused by the number k; nothing is said where none was
abbrev pub refusal_count : ℕ → ℕ → List ℕ
refusal_count k n = cond (n == 0) [] (codes ", " ++ (decimal n ++ (codes " refused by " ++ decimal k)))

-- how many were refused by each number from k on
abbrev pub refusal_counts : ℕ → List ℕ → List ℕ
refusal_counts k [] = []
refusal_counts k (n ∷ ns) = refusal_count k n ++ refusal_counts (k + 1) ns

abbrev pub totals_text : Totals → List ℕ
totals_text t = codes "# " ++ (decimal t.messages ++ (codes " messages read, " ++ (decimal t.accepted ++ (codes " accepted" ++ refusal_counts 1 t.refused))))
