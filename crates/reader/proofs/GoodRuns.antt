-- A run that is as the grammar asks gives its row.
use Rattle.std.proofs.Common.{◌≡◌, ℕ, ◌+◌, ◌-◌, ◌≤◌, Bool, true, List, length, take, drop, Some, Ok, Option, sym, ap, ◌∙◌, arith}
use Rattle.std.specs.List.{prefix_len, suffix_len}
use Rattle.std.proofs.lemmas.List.{length-take, length-drop, take-take, take_all, drop-take, drop-drop}
use Rattle.std.proofs.lemmas.List.Sums.{prefix_len-le-length}
use Rattle.std.proofs.lemmas.Bool.{cond-true, eq-eqb}
use Rattle.wire.specs.declared.kind.Kind.{Kind}
use Rattle.wire.specs.declared.row.Row.{Row}
use Rattle.wire.specs.Rows.{blank_row}
use Rattle.texts.specs.Bytes.{is_blank, after_blanks, unblanked}
use Rattle.texts.proofs.Fronts.{leading_all}
use Rattle.dates.specs.Moments.{Moment, date_of, date_spelling}
use Rattle.dates.proofs.Spelled.{date_spelled}
use Rattle.characters.specs.Rule.{CharacterData}
use Rattle.characters.specs.Checking.{counted, unless_bad}
use Rattle.characters.specs.Decoding.{decoded}
use Rattle.characters.proofs.Reading as reading
use Rattle.parts.specs.Cutting.{AreBlank}
use Rattle.reader.specs.Runs.{blank_run, characters_run, characters_by, by_value, by_test, text_row, span_at}

pub blank_run_lem : (p : ℕ) (bs : List ℕ) → AreBlank bs → blank_run p bs ≡ Ok blank_row
blank_run_lem p bs h = cond-true _ _ _ (eq-eqb _ _ (leading_all is_blank bs h))

counts : {t cs : List ℕ} → CharacterData t cs → counted t ≡ Ok (length (decoded t))
unfolding counted
counts {t} d = ap (λ bad. unless_bad bad (length (decoded t))) ((reading.complete d).1 0)

pub characters_run_lem : (k : Kind) (n p : ℕ) {t cs : List ℕ} → CharacterData t cs → characters_run k n p t ≡ Ok (text_row k n (span_at p (length t)))
characters_run_lem k n p {t} d = ap (characters_by (text_row k n (span_at p (length t))) p) (counts d)

pub value_run_lem : {X : Type 0} (p : ℕ) (row : X → Row) {o : Option X} {x : X} → o ≡ Some x → by_value p o row ≡ Ok (row x)
value_run_lem p row e = ap (λ o. by_value p o row) e

pub test_run : (p : ℕ) (row : Row) {good : Bool} → good ≡ true → by_test p good row ≡ Ok row
test_run p row e = cond-true _ _ _ e

-- the bytes of a date stand in the message behind the blanks
pub date_stands : (msg : List ℕ) (p : ℕ) (t : List ℕ) (m : Moment) → t ≡ take (length t) (drop p msg) → date_of t ≡ Some m →
    take 17 (drop (p + prefix_len is_blank t) msg) ≡ date_spelling m
date_stands msg p t m here e =
    let l = prefix_len is_blank t in
    let rest = after_blanks t in
    let n = length rest - suffix_len is_blank rest in
    let k = length t - l in
    let spelled : unblanked t ≡ date_spelling m = date_spelled t m e in
    let long : length (take n rest) ≡ 17 = ap length spelled in
    let front = prefix_len-le-length is_blank t in
    let whole : length t ≡ l + k = omega arith in
    let enough : 17 ≤ n = omega (arith, length-take n rest) in
    let left : 17 ≤ k = omega (arith, length-take n rest, length-drop l t) in
    let behind : rest ≡ take k (drop (p + l) msg) = ap (drop l) (here ∙ ap (λ j. take j (drop p msg)) whole) ∙ drop-take l k (drop p msg) ∙ ap (take k) (drop-drop l p msg) in
    sym (take-take 17 k (drop (p + l) msg) left) ∙ ap (take 17) (sym behind) ∙ sym (take-take 17 n rest enough) ∙ take_all 17 (take n rest) (omega arith) ∙ spelled
