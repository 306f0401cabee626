-- The reading accepts exactly what the grammar derives, with the rows of the one tree that it derives.
use Rattle.std.proofs.Common.{◌≡◌, ℕ, true, List, [], map, length, drop, Ok, Result, sym, refl, ap, ◌∙◌, subst}
use Rattle.wire.specs.declared.row.Row.{Row}
use Rattle.wire.specs.declared.refusal.Refusal.{Refusal}
use Rattle.wire.specs.Trees as tree
use Rattle.wire.proofs.TellApart.{rows_tell_messages}
use Rattle.characters.specs.References.{all_characters}
use Rattle.parts.specs.Cutting.{Parts, run, ◌then◌, parts_from}
use Rattle.parts.proofs.OneWay.{one_way}
use Rattle.table.specs.declared.mode.Mode.TheVariants.{Start, Finished}
use Rattle.reader.specs.Steps.{St, st, judge, put_at}
use Rattle.reader.specs.Contents.{content_of, InPlace, FromTag}
use Rattle.reader.specs.Grammar.{AMessage}
use Rattle.reader.proofs.Complete.{complete}
use Rattle.reader.proofs.Sound.{sound_in}
use Rattle.reader.proofs.CutParts.{in_place, from_run}

same_state : (s t : St) → ◌≡◌ {A = Result St Refusal} (Ok s) (Ok t) → s ≡ t
same_state s t e = cc

same_rows : (m n : ℕ) (rs ss : List Row) → st Finished [] m rs ≡ st Finished [] n ss → rs ≡ ss
same_rows m n rs ss e = cc

-- parts are at most one message
pub one_message : (msg : List ℕ) (ps : Parts) (m n : tree.Message) → InPlace msg ps → AMessage ps m → AMessage ps n → m ≡ n
one_message msg ps m n at x y =
    let a = complete msg 0 ps m at x in
    let b = complete msg 0 ps n at y in
    let same = same_rows _ _ a.0 b.0 (same_state _ _ (sym a.1 ∙ b.1)) in
    rows_tell_messages m n (sym a.2 ∙ ap (map (content_of msg)) same ∙ b.2)

-- a state that a reading ends in holds the rows of the message that the parts are
abbrev pub Holds : List ℕ → Parts → St → Type 0
Holds msg ps s = (m : tree.Message) × AMessage ps m × (rs : List Row) × (s ≡ st Finished [] (length rs) rs) × (map (content_of msg) rs ≡ tree.message_rows m)

pub accepted_parts : (msg : List ℕ) (len p : ℕ) (r : List ℕ) (ps : Parts) (s : St) → all_characters msg ≡ true → InPlace msg (run p r then ps) → FromTag ps →
    judge put_at (st Start [] 0 []) 0 [] (run p r then ps) len ≡ Ok s → Holds msg (run p r then ps) s
accepted_parts msg len p r ps s good at f h =
    let x = sound_in msg len p r ps s good at f h in
    let y = complete msg len (run p r then ps) x.0 at x.1 in
    (x.0, x.1, y.0, same_state _ _ (sym h ∙ y.1), y.2)

-- of a message's bytes from a place on
pub accepted : (msg : List ℕ) (at len : ℕ) (s : St) → all_characters msg ≡ true → judge put_at (st Start [] 0 []) 0 [] (parts_from at (drop at msg)) len ≡ Ok s → Holds msg (parts_from at (drop at msg)) s
accepted msg at len s good h =
    let ps = parts_from at (drop at msg) in
    let cut = (one_way at (drop at msg)).0 in
    let x = from_run cut in
    let place : InPlace msg (run at x.0 then x.1) = subst (InPlace msg) x.2 (in_place cut msg refl) in
    subst (λ l. Holds msg l s) (sym x.2)
    (accepted_parts msg len at x.0 x.1 s good place x.3 (subst (λ l. judge put_at (st Start [] 0 []) 0 [] l len ≡ Ok s) x.2 h))

-- and the other way round
pub derived : (msg : List ℕ) (at len : ℕ) (m : tree.Message) → AMessage (parts_from at (drop at msg)) m →
    (rs : List Row) × (judge put_at (st Start [] 0 []) 0 [] (parts_from at (drop at msg)) len ≡ Ok (st Finished [] (length rs) rs)) × (map (content_of msg) rs ≡ tree.message_rows m)
derived msg at len m x = complete msg len (parts_from at (drop at msg)) m (in_place (one_way at (drop at msg)).0 msg refl) x
