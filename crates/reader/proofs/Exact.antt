-- A whole message is read exactly when the grammar derives it.
use Rattle.std.proofs.Common.{◌≡◌, ℕ, ◌≤◌, true, false, eqb, ltb, List, [], map, length, drop, Some, None, Ok, Err, Option, Result, sym, refl, ap, ◌∙◌, subst, ⊎_elim, arith}
use Rattle.std.specs.List.{prefix_len}
use Rattle.std.proofs.lemmas.List.Sums.{prefix_len-le-length}
use Rattle.std.proofs.lemmas.Bool.{cases_Bool, ltb-true, ltb-false, eqb-true, eqb-false, eq-eqb}
use Rattle.wire.specs.declared.row.Row.{Row}
use Rattle.wire.specs.declared.refusal.Refusal.{Refusal}
use Rattle.wire.specs.Trees.{Message}
use Rattle.characters.specs.References.{is_character, all_characters}
use Rattle.characters.proofs.Leading.{all_from_test, test_from_all}
use Rattle.parts.specs.Cutting.{parts_from}
use Rattle.parts.specs.Declarations.{declaration_len}
use Rattle.parts.proofs.OneWay.{one_way}
use Rattle.table.specs.declared.mode.Mode.TheVariants.{Start, Finished}
use Rattle.reader.specs.Steps.{St, st, judge, put_at}
use Rattle.reader.specs.Contents.{content_of}
use Rattle.reader.specs.Grammar.{AMessage}
use Rattle.reader.specs.Reading.{read_from, reading, rows_in, rows_of}
use Rattle.reader.specs.Derivations.{Derives, Say, DerivedIsRead, ReadIsDerived, OneMessage}
use Rattle.reader.proofs.Whole.{too_long, bad_byte, good_bytes}
use Rattle.reader.proofs.Agreed.{accepted, derived}
use Rattle.wire.proofs.TellApart.{rows_tell_messages}

no_rows : {X : Type 0} (out : Result (List Row) Refusal) (rs : List Row) (e : Refusal) → out ≡ Ok rs → out ≡ Err e → X
no_rows out rs e h k = absurd (let z : ◌≡◌ {A = ℕ} 0 1 = cc in omega arith)

all_lead : (msg : List ℕ) → all_characters msg ≡ true → prefix_len is_character msg ≡ length msg
unfolding all_characters
all_lead msg h = eqb-true _ _ h

lead_all : (msg : List ℕ) → prefix_len is_character msg ≡ length msg → all_characters msg ≡ true
unfolding all_characters
lead_all msg h = eq-eqb _ _ h

pub derived_is_read : (msg : List ℕ) → DerivedIsRead msg
derived_is_read msg m d =
    let n = d.start in
    let same = (one_way n (drop n msg)).1 d.parts d.cut in
    let x = derived msg n (length msg) m (subst (λ l. AMessage l m) same d.is) in
    let read : reading put_at msg [] ≡ Ok (st Finished [] (length x.0) x.0) = ap (read_from put_at msg []) d.declared ∙ x.1 in
    (x.0, good_bytes msg d.short (all_lead msg (test_from_all msg d.bytes)) ∙ ap rows_in read, x.2)

-- what an accepted message is
record Kept (msg : List ℕ) (rs : List Row) : Type 0 where
  short : length msg ≤ 65536
  bytes : prefix_len is_character msg ≡ length msg

kept : (msg : List ℕ) (rs : List Row) → rows_of msg ≡ Ok rs → Kept msg rs
kept msg rs h =
    ⊎_elim
    (λ (long : ltb 65536 (length msg) ≡ true). no_rows _ rs _ h (too_long msg (ltb-true _ _ long)))
    (λ (short : ltb 65536 (length msg) ≡ false).
    ⊎_elim
    (λ (good : eqb (prefix_len is_character msg) (length msg) ≡ true). record { short = ltb-false _ _ short; bytes = eqb-true _ _ good })
    (λ (bad : eqb (prefix_len is_character msg) (length msg) ≡ false).
    let odd = eqb-false _ _ bad in
    let most = prefix_len-le-length is_character msg in
    no_rows _ rs _ h (bad_byte msg (ltb-false _ _ short) (omega (arith, most, odd))))
    (cases_Bool (eqb (prefix_len is_character msg) (length msg))))
    (cases_Bool (ltb 65536 (length msg)))

module _ (msg : List ℕ) (rs : List Row) (k : Kept msg rs) where
  abbrev Told : Type 0
  Told = (m : Message) × Derives msg m × Say msg rs m

  told : (n : ℕ) → declaration_len msg ≡ Some n → (out : Result St Refusal) → judge put_at (st Start [] 0 []) 0 [] (parts_from n (drop n msg)) (length msg) ≡ out → rows_in out ≡ Ok rs → Told
  told n e (Err r) h g = no_rows _ rs r g refl
  told n e (Ok s) h g =
      let good = lead_all msg k.bytes in
      let x = accepted msg n (length msg) s good h in
      let same : x.2 ≡ rs = cc in (
        x.0,
        record { short = k.short; bytes = all_from_test msg good; start = n; declared = e; parts = parts_from n (drop n msg); cut = (one_way n (drop n msg)).0; is = x.1 },
        ap (map (content_of msg)) (sym same) ∙ x.4,
      )

  declared : (o : Option ℕ) → declaration_len msg ≡ o → rows_in (read_from put_at msg [] o) ≡ Ok rs → Told
  declared None e h = no_rows _ rs _ h refl
  declared (Some n) e h = told n e (judge put_at (st Start [] 0 []) 0 [] (parts_from n (drop n msg)) (length msg)) refl h

pub read_is_derived : (msg : List ℕ) → ReadIsDerived msg
read_is_derived msg rs h =
    let k = kept msg rs h in
    declared msg rs k (declaration_len msg) refl (sym (good_bytes msg k.short k.bytes) ∙ h)

same_rows : (rs ss : List Row) → ◌≡◌ {A = Result (List Row) Refusal} (Ok rs) (Ok ss) → rs ≡ ss
same_rows rs ss e = cc

pub only_message : (msg : List ℕ) → OneMessage msg
only_message msg m n d e =
    let x = derived_is_read msg m d in
    let y = derived_is_read msg n e in
    rows_tell_messages m n (sym x.2 ∙ ap (map (content_of msg)) (same_rows x.0 y.0 (sym x.1 ∙ y.1)) ∙ y.2)
