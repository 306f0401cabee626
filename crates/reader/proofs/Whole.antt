-- The checks of a whole message, one after another.
use Rattle.std.proofs.Common.{◌≡◌, ℕ, ◌<◌, ◌≤◌, min, eqb, ltb, leb, true, false, List, [], ◌++◌, length, drop, replicate, Ok, Err, Result, is_err, OnOk, refl, ap, ◌∙◌, append-nil, arith}
use Rattle.std.specs.List.{prefix_len}
use Rattle.std.proofs.lemmas.List.{drop_all}
use Rattle.std.proofs.lemmas.Bool.{cond-true, cond-false, lt-ltb, le-ltb, eq-eqb, ne_eqb, le-leb, lt-leb, true≢false, false≢true}
use Rattle.wire.specs.declared.row.Row.{Row}
use Rattle.wire.specs.declared.refusal.Refusal.{Refusal}
use Rattle.wire.specs.declared.refusal.Refusal.TheVariants.{MessageTooLong, BadByte, TooManyRows}
use Rattle.wire.specs.Rows.{blank_row, cleared}
use Rattle.characters.specs.References.{is_character}
use Rattle.reader.specs.Steps.{put_at}
use Rattle.reader.specs.Reading.{reading, rows_in, rows_of, within, laid, left_by}
use Rattle.reader.proofs.Memory.{Heard}

pub too_long : (msg : List ℕ) → 65536 < length msg → rows_of msg ≡ Err MessageTooLong
unfolding rows_of
too_long msg h = cond-true (ltb 65536 (length msg)) _ _ (lt-ltb 65536 (length msg) h)

pub bad_byte : (msg : List ℕ) → length msg ≤ 65536 → prefix_len is_character msg < length msg → rows_of msg ≡ Err (BadByte (prefix_len is_character msg))
unfolding rows_of
bad_byte msg short bad =
    cond-false (ltb 65536 (length msg)) (Err MessageTooLong) _ (le-ltb 65536 (length msg) short)
    ∙ cond-false (eqb (prefix_len is_character msg) (length msg)) (rows_in (reading put_at msg [])) (Err (BadByte (prefix_len is_character msg))) (ne_eqb _ _ (λ e. omega (arith, e)))

pub good_bytes : (msg : List ℕ) → length msg ≤ 65536 → prefix_len is_character msg ≡ length msg → rows_of msg ≡ rows_in (reading put_at msg [])
unfolding rows_of
good_bytes msg short good =
    cond-false (ltb 65536 (length msg)) (Err MessageTooLong) _ (le-ltb 65536 (length msg) short)
    ∙ cond-true (eqb (prefix_len is_character msg) (length msg)) (rows_in (reading put_at msg [])) (Err (BadByte (prefix_len is_character msg))) (eq-eqb _ _ good)

-- a refusal that was heard is the one that is told
pub heard_refusal : (out : Result (List Row) Refusal) (old : List Row) (e : Refusal) (left : List Row) (n : ℕ) → Heard out old (Err e) left → Err e ≡ within n out
heard_refusal (Ok rs) old e left n h = absurd (let k = (h.rows rs refl).0 in let z : ◌≡◌ {A = ℕ} 0 1 = cc in omega arith)
heard_refusal (Err d) old e left n h = h.refused d refl

pub record Came (out : Result (List Row) Refusal) (old : List Row) (u : ℕ) (left : List Row) : Type 0 where
  pub rs : List Row
  pub is : out ≡ Ok rs
  pub count : u ≡ length rs
  pub over : left ≡ laid rs old

-- and so are the rows
pub heard_rows : (out : Result (List Row) Refusal) (old : List Row) (u : ℕ) (left : List Row) → Heard out old (Ok u) left → Came out old u left
heard_rows (Ok rs) old u left h = record { rs = rs; is = refl; count = let k = (h.rows rs refl).0 in let z : u ≡ length rs = cc in z; over = (h.rows rs refl).1 }
heard_rows (Err d) old u left h = absurd (let k = h.refused d refl in let z : ◌≡◌ {A = ℕ} 0 1 = cc in omega arith)

pub too_many : (rs : List Row) (n : ℕ) → n < length rs → within n (Ok rs) ≡ Err TooManyRows
too_many rs n h = cond-false (leb (length rs) n) (Ok (length rs)) (Err TooManyRows) (lt-leb (length rs) n h)

pub fitting : (rs : List Row) (n : ℕ) → length rs ≤ n → within n (Ok rs) ≡ Ok (length rs)
fitting rs n h = cond-true (leb (length rs) n) (Ok (length rs)) (Err TooManyRows) (le-leb (length rs) n h)

-- all of the memory is cleared
pub all_cleared : (x : Row) (n : ℕ) (xs : List Row) → n ≡ length xs → cleared x n xs ≡ replicate n x
all_cleared x n xs e =
    let all : min n (length xs) ≡ n = omega arith in
    ap (λ k. replicate k x ++ drop k xs) all ∙ ap (λ l. replicate n x ++ l) (drop_all n xs (omega arith)) ∙ append-nil (replicate n x)

-- what is left where a reading was refused, and what holds where it was not
pub refused_left : (r : Result ℕ Refusal) (out : Result (List Row) Refusal) (old : List Row) → is_err r ≡ true → left_by r out old ≡ replicate (length old) blank_row
refused_left (Ok n) out old e = absurd (false≢true e)
refused_left (Err x) out old e = refl

pub where_read : (r : Result ℕ Refusal) (P : Type 0) → is_err r ≡ false → OnOk r P → P
where_read (Ok n) P e h = h
where_read (Err x) P e h = absurd (true≢false e)
