-- Reading into lent rows does what reading into a list of rows does.
use Rattle.std.proofs.Common.{◌≡◌, ℕ, zero, suc, ◌+◌, ◌<◌, ◌≤◌, Bool, true, false, cond, List, [], ◌∷◌, length, drop, set, Some, None, Ok, Err, Option, Result, sym, refl, ap, ◌∙◌, subst, arith}
use Rattle.wire.specs.declared.row.Row.{Row}
use Rattle.wire.specs.declared.refusal.Refusal.{Refusal}
use Rattle.wire.specs.Rows.{blank_row}
use Rattle.parts.specs.Cutting.{Parts, run, tag, ends, broken, ◌then◌, parts_from}
use Rattle.parts.specs.Declarations.{declaration_len}
use Rattle.table.specs.declared.mode.Mode.{Mode}
use Rattle.table.specs.declared.mode.Mode.TheVariants.{Start, Call, Response, Finished}
use Rattle.table.specs.declared.mode.CallMode.TheVariants as call
use Rattle.table.specs.declared.mode.ResponseMode.TheVariants as response
use Rattle.table.specs.declared.mode.Shape.{Shape}
use Rattle.table.specs.declared.mode.Shape.TheVariants as shape
use Rattle.table.specs.declared.mode.Move.{Move}
use Rattle.table.specs.declared.mode.Move.TheVariants as move
use Rattle.table.specs.Entries.{lookup, entries}
use Rattle.reader.specs.declared.frame.Frame.{Frame}
use Rattle.reader.specs.Runs.{run_row, blank_run, span_at}
use Rattle.reader.specs.Steps.{St, st, and_then, frame, inside_of, after_of, past_of, holder_row, room_for, nest, act, is_finished, judge, put_at}
use Rattle.reader.specs.Reading.{read_from, reading, Said, laid, rows_in}

laid_put : (R mem : List Row) (i : ℕ) (r : Row) → i ≤ length R → laid (put_at R i r) mem ≡ set (laid R mem) i r
laid_put [] [] i r h = refl
laid_put [] (x ∷ mem) zero r h = refl
laid_put [] (x ∷ mem) (suc i) r h = absurd (omega arith)
laid_put (y ∷ R) [] zero r h = refl
laid_put (y ∷ R) [] (suc i) r h = refl
laid_put (y ∷ R) (x ∷ mem) zero r h = refl
laid_put (y ∷ R) (x ∷ mem) (suc i) r h = ap (λ l. y ∷ l) (laid_put R mem i r (omega arith))

pub length-laid : (R mem : List Row) → length (laid R mem) ≡ length mem
length-laid [] mem = refl
length-laid (y ∷ R) [] = refl
length-laid (y ∷ R) (x ∷ mem) = ap suc (length-laid R mem)

put_end : (R : List Row) (i : ℕ) (r : Row) → length R ≡ i → length (put_at R i r) ≡ i + 1
put_end [] i r h = omega arith
put_end (y ∷ R) zero r h = absurd (omega arith)
put_end (y ∷ R) (suc i) r h = omega (arith, put_end R i r (omega arith))

put_in : (R : List Row) (i : ℕ) (r : Row) → i < length R → length (put_at R i r) ≡ length R
put_in [] i r h = absurd (omega arith)
put_in (y ∷ R) zero r h = refl
put_in (y ∷ R) (suc i) r h = ap suc (put_in R i r (omega arith))

-- what is open has its row
abbrev Lined : List Frame → ℕ → Type 0
Lined [] u = Unit {0}
Lined (f ∷ fs) u = (f.row < u) × Lined fs u

lined_more : (fs : List Frame) (u : ℕ) → Lined fs u → Lined fs (u + 1)
lined_more [] u h = tt
lined_more (f ∷ fs) u h = (omega (arith, h.0), lined_more fs u h.1)

module _ (mem : List Row) (len : ℕ) where
  -- the second outcome is the first with its rows laid over the lent ones
  abbrev Same : Result St Refusal → Result St Refusal → Type 0
  Same (Ok (st m fs u R)) o = (o ≡ Ok (st m fs u (laid R mem))) × (length R ≡ u)
  Same (Err e) o = o ≡ Err e

  abbrev Ih : Parts → Type 0
  Ih ps = (p : ℕ) (r : List ℕ) (m : Mode) (fs : List Frame) (u : ℕ) (R : List Row) → length R ≡ u → Lined fs u → Same (judge put_at (st m fs u R) p r ps len) (judge set (st m fs u (laid R mem)) p r ps len)

  module _ (ps : Parts) (ih : Ih ps) (q : ℕ) (r : Row) where
    pushed : (m : Mode) (fs : List Frame) (u : ℕ) (R : List Row) (x : Row) → length R ≡ u → Lined fs (u + 1) → Same (judge put_at (st m fs (u + 1) (put_at R u x)) 0 [] ps len) (judge set (st m fs (u + 1) (set (laid R mem) u x)) 0 [] ps len)
    pushed m fs u R x fit lined =
        subst (λ l. Same (judge put_at (st m fs (u + 1) (put_at R u x)) 0 [] ps len) (judge set (st m fs (u + 1) l) 0 [] ps len)) (laid_put R mem u x (omega arith))
        (ih 0 [] m fs (u + 1) (put_at R u x) (put_end R u x fit) lined)

    nests : (v : Bool) (s : Shape) (fs : List Frame) (u : ℕ) (R : List Row) → length R ≡ u → Lined fs u → Same (and_then (nest put_at v s fs q u R) (λ s. judge put_at s 0 [] ps len)) (and_then (nest set v s fs q u (laid R mem)) (λ s. judge set s 0 [] ps len))
    nests true s fs u R fit lined = pushed (inside_of s) (frame s u 0 (span_at 0 0) ∷ fs) u R blank_row fit (omega arith, lined_more fs u lined)
    nests false s fs u R fit lined = refl

    acts : (v : Option Move) (fs : List Frame) (u : ℕ) (R : List Row) → length R ≡ u → Lined fs u → Same (and_then (act put_at v q r fs u R) (λ s. judge put_at s 0 [] ps len)) (and_then (act set v q r fs u (laid R mem)) (λ s. judge set s 0 [] ps len))
    acts None fs u R fit lined = refl
    acts (Some (move.Enter n)) fs u R fit lined = ih 0 [] n fs u R fit lined
    acts (Some (move.Emit n)) fs u R fit lined = pushed n fs u R r fit (lined_more fs u lined)
    acts (Some move.Word) [] u R fit lined = pushed Finished [] u R r fit tt
    acts (Some move.Word) (f ∷ fs) u R fit lined = pushed (after_of f.shape) (frame f.shape f.row (f.count + 1) f.name ∷ fs) u R r fit (lined_more (f ∷ fs) u lined)
    acts (Some move.Leave) [] u R fit lined = ih 0 [] Finished [] u R fit tt
    acts (Some move.Leave) (f ∷ fs) u R fit lined = ih 0 [] (after_of f.shape) (frame f.shape f.row (f.count + 1) f.name ∷ fs) u R fit lined
    acts (Some (move.Nest s)) fs u R fit lined = nests (room_for fs) s fs u R fit lined
    acts (Some move.Unnest) [] u R fit lined = refl
    acts (Some move.Unnest) (f ∷ fs) u R fit lined =
        subst (λ l. Same (judge put_at (st (past_of f.shape) fs u (put_at R f.row (holder_row f))) 0 [] ps len) (judge set (st (past_of f.shape) fs u l) 0 [] ps len)) (laid_put R mem f.row (holder_row f) (omega (arith, lined.0)))
        (ih 0 [] (past_of f.shape) fs u (put_at R f.row (holder_row f)) (put_in R f.row (holder_row f) (omega (arith, lined.0)) ∙ fit) lined.1)
    acts (Some move.Name) [] u R fit lined = refl
    acts (Some move.Name) (f ∷ fs) u R fit lined = ih 0 [] (Call call.Named) (frame f.shape f.row f.count r.text ∷ fs) u R fit lined
    acts (Some move.Fault) [] u R fit lined = refl
    acts (Some move.Fault) (f ∷ fs) u R fit lined = ih 0 [] (Response response.Fault) (frame shape.Fault f.row f.count f.name ∷ fs) u R fit lined

  runs : (ps : Parts) (ih : Ih ps) (q : ℕ) (o : Result Row Refusal) (v : Option Move) (fs : List Frame) (u : ℕ) (R : List Row) → length R ≡ u → Lined fs u → Same (and_then (and_then o (λ r. act put_at v q r fs u R)) (λ s. judge put_at s 0 [] ps len)) (and_then (and_then o (λ r. act set v q r fs u (laid R mem))) (λ s. judge set s 0 [] ps len))
  runs ps ih q (Ok r) v fs u R fit lined = acts ps ih q r v fs u R fit lined
  runs ps ih q (Err e) v fs u R fit lined = refl

  lasts : (v : Bool) (o : Result Row Refusal) (e : Refusal) (m : Mode) (fs : List Frame) (u : ℕ) (R : List Row) → length R ≡ u → Same (cond v (and_then o (λ _. Ok (st m fs u R))) (Err e)) (cond v (and_then o (λ _. Ok (st m fs u (laid R mem)))) (Err e))
  lasts true (Ok r) e m fs u R fit = (refl, fit)
  lasts true (Err x) e m fs u R fit = refl
  lasts false o e m fs u R fit = refl

  same : (ps : Parts) → Ih ps
  same ends p r m fs u R fit lined = lasts (is_finished set m) (blank_run p r) _ m fs u R fit
  same (broken q) p r m fs u R fit lined = refl
  same (run p' r' then ps) p r m fs u R fit lined = same ps p' r' m fs u R fit lined
  same (tag q t then ps) p r m fs u R fit lined = runs ps (same ps) q (run_row m t p r) (lookup t (entries m)) fs u R fit lined

-- what the reading into lent rows said is what the reading tells
pub record Heard (out : Result (List Row) Refusal) (old : List Row) (r : Result ℕ Refusal) (left : List Row) : Type 0 where
  pub rows : (rs : List Row) → out ≡ Ok rs → (r ≡ Ok (length rs)) × (left ≡ laid rs old)
  pub refused : (e : Refusal) → out ≡ Err e → r ≡ Err e

pub heard : (msg : List ℕ) (old : List Row) (r : Result ℕ Refusal) (left : List Row) → Said (reading set msg old) r left → Heard (rows_in (reading put_at msg [])) old r left
heard msg old r left h = by (declaration_len msg) h
  where
    go : (a b : Result St Refusal) → Same old (length msg) a b → Said b r left → Heard (rows_in a) old r left
    go (Ok (st m fs u R)) b s k =
        let x = subst (λ o. Said o r left) s.0 k in
        record {
          rows = λ rs e. let eq : R ≡ rs = cc in (x.0 ∙ ap Ok (sym s.1 ∙ ap length eq), x.1 ∙ ap (λ l. laid l old) eq);
          refused = λ e d. absurd (let z : ◌≡◌ {A = ℕ} 0 1 = cc in omega arith);
        }
    go (Err e) b s k =
        let x : r ≡ Err e = subst (λ o. Said o r left) s k in
        record { rows = λ rs d. absurd (let z : ◌≡◌ {A = ℕ} 0 1 = cc in omega arith); refused = λ d q. let same-refusal : e ≡ d = cc in x ∙ ap Err same-refusal }

    by : (o : Option ℕ) → Said (read_from set msg old o) r left → Heard (rows_in (read_from put_at msg [] o)) old r left
    by None k = go (read_from put_at msg [] None) (read_from set msg old None) refl k
    by (Some n) k = go (read_from put_at msg [] (Some n)) (read_from set msg old (Some n)) (same old (length msg) (parts_from n (drop n msg)) 0 [] Start [] 0 [] refl tt) k
