-- There is one answer, and it is that of the grammar.
use Rattle.std.proofs.Common.{◌≡◌, ℕ, List, ◌++◌, map, length, get_or, drop, Ok, Err, sym, refl, ap, ◌∙◌, subst, arith}
use Rattle.std.proofs.lemmas.List.{length-map}
use Rattle.wire.specs.declared.row.Row.{Row}
use Rattle.wire.specs.declared.refusal.Refusal.{Refusal}
use Rattle.wire.specs.declared.refusal.Refusal.TheVariants.{RepeatedName}
use Rattle.wire.specs.Rows.{blank_row}
use Rattle.wire.specs.Trees.{Message, message_rows}
use Rattle.wire.proofs.TellApart.{rows_tell_messages}
use Rattle.reader.specs.Contents.{content_of}
use Rattle.reader.specs.Derivations.{Say}
use Rattle.reader.specs.Reading.{rows_of}
use Rattle.reader.proofs.Exact.{derived_is_read, read_is_derived, only_message}
use Rattle.messages.specs.Answers.{Sound, Flawed, name_repeats, bad_fault, Refused, by_its_bytes, too_many_rows, flawed, Accepted, small_memory, refused, accepted, OneAnswer, AcceptedIsMessage, MessageIsAccepted, OneReading}
use Rattle.reader.specs.Faults.{FaultFits}
use Rattle.messages.specs.Repeats.{RepeatAt, NoRepeat}

module _ (msg : List ℕ) where
  -- rows say one message
  one_tree : (rs : List Row) (m n : Message) → Say msg rs m → Say msg rs n → m ≡ n
  one_tree rs m n a b = rows_tell_messages m n (sym a ∙ b)

  -- no row of a sound message repeats a name
  no_repeat : (rs : List Row) (m : Message) (i : ℕ) → Say msg rs m → NoRepeat (message_rows m) → RepeatAt (map (content_of msg) rs) i → ⊥
  no_repeat rs m i say names r = names i (subst (λ l. RepeatAt l i) say r)

  one_flaw : (rs : List Row) (e d : Refusal) → Flawed msg rs e → Flawed msg rs d → e ≡ d
  one_flaw rs _ _ (name_repeats i a) (name_repeats j b) =
      let same : i ≡ j = omega (arith, a.1 j b.0, b.1 i a.0) in
      ap (λ k. RepeatedName (get_or rs k blank_row).text.start) same
  one_flaw rs _ _ (name_repeats i a) (bad_fault m say names bad) = absurd (no_repeat rs m i say names a.0)
  one_flaw rs _ _ (bad_fault m say names bad) (name_repeats i a) = absurd (no_repeat rs m i say names a.0)
  one_flaw rs _ _ (bad_fault m say names bad) (bad_fault n say' names' bad') = refl

  sound_without_flaw : (rs : List Row) (e : Refusal) → Sound msg rs → Flawed msg rs e → ⊥
  sound_without_flaw rs _ s (name_repeats i a) = no_repeat rs s.tree i s.says s.names a.0
  sound_without_flaw rs _ s (bad_fault m say names bad) = bad (subst FaultFits (one_tree rs s.tree m s.says say) s.fault)

  -- a reading has one outcome
  ok_or_err : (rs : List Row) (e : Refusal) → rows_of msg ≡ Ok rs → rows_of msg ≡ Err e → ⊥
  ok_or_err rs e a b = let z : ◌≡◌ {A = ℕ} 0 1 = cc in omega arith

  same_rows : (rs qs : List Row) → rows_of msg ≡ Ok rs → rows_of msg ≡ Ok qs → rs ≡ qs
  same_rows rs qs a b = cc

  module _ (room : ℕ) where
    one_refusal : (e d : Refusal) → Refused room msg e → Refused room msg d → e ≡ d
    one_refusal e d (by_its_bytes a) (by_its_bytes b) = cc
    one_refusal e _ (by_its_bytes a) (too_many_rows qs b over) = absurd (ok_or_err qs e b a)
    one_refusal e d (by_its_bytes a) (flawed qs b fits f) = absurd (ok_or_err qs e b a)
    one_refusal _ d (too_many_rows rs a over) (by_its_bytes b) = absurd (ok_or_err rs d a b)
    one_refusal _ _ (too_many_rows rs a over) (too_many_rows qs b over') = refl
    one_refusal _ d (too_many_rows rs a over) (flawed qs b fits f) = absurd (omega (arith, over, fits, ap length (same_rows rs qs a b)))
    one_refusal e d (flawed rs a fits f) (by_its_bytes b) = absurd (ok_or_err rs d a b)
    one_refusal e _ (flawed rs a fits f) (too_many_rows qs b over) = absurd (omega (arith, over, fits, ap length (same_rows rs qs a b)))
    one_refusal e d (flawed rs a fits f) (flawed qs b fits' g) = one_flaw qs e d (subst (λ l. Flawed msg l e) (same_rows rs qs a b) f) g

    accepted_or_refused : (rs : List Row) (e : Refusal) → Accepted room msg rs → Refused room msg e → ⊥
    accepted_or_refused rs e a (by_its_bytes b) = ok_or_err rs e a.reads b
    accepted_or_refused rs _ a (too_many_rows qs b over) = omega (arith, a.fits, over, ap length (same_rows rs qs a.reads b))
    accepted_or_refused rs e a (flawed qs b fits f) = sound_without_flaw qs e (subst (Sound msg) (same_rows rs qs a.reads b) a.sound) f

    pub one_answer : (old : List Row) → OneAnswer room msg old
    one_answer old _ _ _ _ (small_memory a) (small_memory b) = (refl, refl)
    one_answer old _ _ _ _ (small_memory a) (refused b r) = absurd (omega (arith, a, b))
    one_answer old _ _ _ _ (small_memory a) (accepted rs b r) = absurd (omega (arith, a, b))
    one_answer old _ _ _ _ (refused a r) (small_memory b) = absurd (omega (arith, a, b))
    one_answer old _ _ _ _ (refused {e = e} a r) (refused {e = d} b q) = (ap Err (one_refusal e d r q), refl)
    one_answer old _ _ _ _ (refused {e = e} a r) (accepted rs b q) = absurd (accepted_or_refused rs e q r)
    one_answer old _ _ _ _ (accepted rs a r) (small_memory b) = absurd (omega (arith, a, b))
    one_answer old _ _ _ _ (accepted rs a r) (refused {e = d} b q) = absurd (accepted_or_refused rs d r q)
    one_answer old _ _ _ _ (accepted rs a r) (accepted qs b q) =
        let same = same_rows rs qs r.reads q.reads in
        (ap (λ l. Ok (length l)) same, ap (λ l. l ++ drop (length l) old) same)

    pub accepted_is_message : AcceptedIsMessage room msg
    accepted_is_message rs a =
        let s = a.sound in
        let d = read_is_derived msg rs a.reads in
        let same = one_tree rs s.tree d.0 s.says d.2 in
        (d.0, record { derived = d.1; names = subst (λ m. NoRepeat (message_rows m)) same s.names; fault = subst FaultFits same s.fault }, d.2)

    pub message_is_accepted : MessageIsAccepted room msg
    message_is_accepted m is fits =
        let d = derived_is_read msg m is.derived in
        let long = length-map d.0 (content_of msg) in (
          d.0,
          record {
            reads = d.1;
            fits = omega (arith, fits, long, ap length d.2);
            sound = record { tree = m; says = d.2; names = is.names; fault = is.fault };
          },
          d.2,
        )

  pub one_reading : OneReading msg
  one_reading m n a b = only_message msg m n a.derived b.derived
