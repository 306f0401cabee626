-- What a reading leaves in the lent rows, told as an answer.
use Rattle.std.proofs.Common.{◌≡◌, ℕ, ◌≤◌, min, List, [], ◌∷◌, ◌++◌, length, take, drop, replicate, IfOk, Ok, Err, Result, sym, refl, ap, ◌∙◌, subst, ⊎_elim, append_assoc, arith}
use Rattle.std.proofs.lemmas.List.{take_at, length-take-le, drop-append-le, take-append-drop}
use Rattle.std.proofs.lemmas.Bool.{cases_lt}
use Rattle.wire.specs.declared.row.Row.{Row}
use Rattle.wire.specs.declared.refusal.Refusal.{Refusal}
use Rattle.wire.specs.declared.refusal.Refusal.TheVariants.{TooManyRows}
use Rattle.wire.specs.Rows.{blank_row, cleared}
use Rattle.reader.specs.Reading.{rows_of, within, laid, left_by}
use Rattle.reader.proofs.Whole.{too_many, fitting, all_cleared}
use Rattle.messages.specs.Answers.{Sound, Flawed, Refused, by_its_bytes, too_many_rows, flawed, Answer, small_memory, refused, accepted}

-- a reading that was refused
refused_by : (msg : List ℕ) (room : ℕ) (e : Refusal) (out : Result (List Row) Refusal) → rows_of msg ≡ out → Err e ≡ within room out → Refused room msg e
refused_by msg room e (Ok rs) is told =
    ⊎_elim
    (λ over.
    let all = told ∙ too_many rs room over in
    let same : TooManyRows ≡ e = cc in
    subst (Refused room msg) same (too_many_rows rs is over))
    (λ fits. let all = told ∙ fitting rs room fits in absurd (let z : ◌≡◌ {A = ℕ} 0 1 = cc in omega arith))
    (cases_lt room (length rs))
refused_by msg room e (Err d) is told = let same : d ≡ e = cc in by_its_bytes (is ∙ ap Err same)

-- and one that was not
pub record Read (msg : List ℕ) (room n : ℕ) : Type 0 where
  pub rs : List Row
  pub reads : rows_of msg ≡ Ok rs
  pub many : n ≡ length rs
  pub fits : length rs ≤ room

read_by : (msg : List ℕ) (room n : ℕ) (out : Result (List Row) Refusal) → rows_of msg ≡ out → Ok n ≡ within room out → Read msg room n
read_by msg room n (Ok rs) is told =
    ⊎_elim
    (λ over. let all = told ∙ too_many rs room over in absurd (let z : ◌≡◌ {A = ℕ} 0 1 = cc in omega arith))
    (λ fits. let all = told ∙ fitting rs room fits in let same : n ≡ length rs = cc in record { rs = rs; reads = is; many = same; fits = fits })
    (cases_lt room (length rs))
read_by msg room n (Err d) is told = absurd (let z : ◌≡◌ {A = ℕ} 0 1 = cc in omega arith)

-- rows laid over others
laid_over : (rs old : List Row) → length rs ≤ length old → laid rs old ≡ rs ++ drop (length rs) old
laid_over [] old le = refl
laid_over (r ∷ rs) [] le = absurd (omega (arith, le))
laid_over (r ∷ rs) (x ∷ old) le = ap (λ l. r ∷ l) (laid_over rs old (omega (arith, le)))

module _ (msg : List ℕ) (old left : List Row) where
  -- all of the lent rows are blank
  blank : left ≡ replicate (length old) blank_row → left ≡ cleared blank_row (length old) old
  blank is = is ∙ sym (all_cleared blank_row (length old) old refl)

  pub refused_answer : (e : Refusal) → Err e ≡ within (length old) (rows_of msg) → left ≡ replicate (length old) blank_row → Answer (length old) msg old (Err e) left
  refused_answer e told is =
      subst (Answer (length old) msg old (Err e)) (sym (blank is)) (refused (omega arith) (refused_by msg (length old) e (rows_of msg) refl told))

  pub was_read : (n : ℕ) → Ok n ≡ within (length old) (rows_of msg) → Read msg (length old) n
  was_read n told = read_by msg (length old) n (rows_of msg) refl told

  module _ (n : ℕ) (r : Read msg (length old) n) (is : left ≡ left_by (Ok n) (rows_of msg) old) where
    over : left ≡ r.rs ++ drop (length r.rs) old
    over = is ∙ ap (λ out. left_by (Ok n) out old) r.reads ∙ laid_over r.rs old r.fits

    -- the first rows are those of the message
    pub front : take n left ≡ r.rs
    front = ap (take n) over ∙ take_at r.rs (drop (length r.rs) old) n (sym r.many)

    pub accepted_answer : Sound msg (take n left) → Answer (length old) msg old (Ok n) left
    accepted_answer sound =
        let rs = r.rs in
        let whole : Answer (length old) msg old (Ok (length rs)) (rs ++ drop (length rs) old) = accepted rs (omega arith) (record { reads = r.reads; fits = r.fits; sound = subst (Sound msg) front sound }) in
        subst (λ k. Answer (length old) msg old (Ok k) left) (sym r.many) (subst (Answer (length old) msg old (Ok (length rs))) (sym over) whole)

    pub flawed_answer : (e : Refusal) (end : List Row) → Flawed msg (take n left) e → end ≡ replicate (length old) blank_row → Answer (length old) msg old (Err e) end
    flawed_answer e end f cleared-all =
        subst (Answer (length old) msg old (Err e)) (sym (cleared-all ∙ sym (all_cleared blank_row (length old) old refl)))
        (refused (omega arith) (flawed r.rs r.reads r.fits (subst (λ l. Flawed msg l e) front f)))

module _ (room : ℕ) (msg : List ℕ) (old : List Row) (le : room ≤ length old) where
  long : length (take room old) ≡ room
  long = length-take-le room old le

  blank_front : cleared blank_row room old ≡ cleared blank_row room (take room old) ++ drop room old
  blank_front =
      let all : min room (length old) ≡ room = omega (arith, le) in
      ap (λ k. replicate k blank_row ++ drop k old) all ∙ ap (λ l. l ++ drop room old) (sym (all_cleared blank_row room (take room old) (sym long)))

  laid_front : (rs : List Row) → length rs ≤ room → rs ++ drop (length rs) old ≡ rs ++ drop (length rs) (take room old) ++ drop room old
  laid_front rs fits =
      let n = length rs in
      ap (λ l. rs ++ drop n l) (sym (take-append-drop room old))
      ∙ ap (λ l. rs ++ l) (drop-append-le n (take room old) (drop room old) (omega (arith, fits, long)))
      ∙ sym (append_assoc rs (drop n (take room old)) (drop room old))

  -- an answer with the first of the lent rows, told of all of them
  pub front_answer : (r : Result ℕ Refusal) (left : List Row) → Answer room msg (take room old) r left → Answer room msg old r (left ++ drop room old)
  front_answer _ _ (small_memory short) = absurd (omega (arith, short, long))
  front_answer _ _ (refused {e = e} fits r) = subst (Answer room msg old (Err e)) blank_front (refused le r)
  front_answer _ _ (accepted rs fits a) = subst (Answer room msg old (Ok (length rs))) (laid_front rs a.fits) (accepted rs le a)

-- no more rows are told than were lent
pub within_lent : (room : ℕ) (msg : List ℕ) (old : List Row) (r : Result ℕ Refusal) (left : List Row) → Answer room msg old r left → IfOk r (λ n. n ≤ length old)
within_lent room msg old _ _ (small_memory short) = tt
within_lent room msg old _ _ (refused fits r) = tt
within_lent room msg old _ _ (accepted rs fits a) = omega (arith, fits, a.fits)
