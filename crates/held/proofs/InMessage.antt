-- The texts of a message that was read lie in its bytes.
use Rattle.std.proofs.Common.{◌≡◌, ℕ, zero, suc, Bool, true, false, cond, eqb, ltb, List, [], ◌∷◌, map, length, take, drop, Some, None, Ok, Err, Option, Result, refl, ap, subst}
use Rattle.std.specs.List.{prefix_len, AllByRecursion}
use Rattle.wire.specs.declared.row.Store.{Store}
use Rattle.wire.specs.declared.row.Store.TheVariants as store
use Rattle.wire.specs.declared.row.Span.{Span}
use Rattle.wire.specs.declared.row.Row.{Row}
use Rattle.wire.specs.declared.refusal.Refusal.{Refusal}
use Rattle.characters.specs.Checking.{counted}
use Rattle.characters.specs.References.{is_character}
use Rattle.characters.specs.declared.check.BadCharacters.{BadCharacters}
use Rattle.characters.specs.declared.check.BadCharacters.TheVariants.{Byte, Reference}
use Rattle.parts.specs.declared.tag.Tag.{Tag}
use Rattle.parts.specs.declared.tag.Tag.TheVariants.{Open, Close}
use Rattle.parts.specs.Cutting.{Parts, run, tag, ends, broken, ◌then◌, parts_from}
use Rattle.parts.specs.Declarations.{declaration_len}
use Rattle.table.specs.declared.mode.Mode.{Mode}
use Rattle.table.specs.declared.mode.Mode.TheVariants.{Start, Call, Response, Value, Struct, Array, Finished}
use Rattle.table.specs.declared.mode.CallMode.{CallMode}
use Rattle.table.specs.declared.mode.CallMode.TheVariants as call
use Rattle.table.specs.declared.mode.ValueMode.{ValueMode}
use Rattle.table.specs.declared.mode.ValueMode.TheVariants as value
use Rattle.table.specs.declared.mode.Plain.{Plain}
use Rattle.table.specs.declared.mode.Plain.TheVariants as plain
use Rattle.table.specs.declared.mode.StructMode.{StructMode}
use Rattle.table.specs.declared.mode.StructMode.TheVariants as struct
use Rattle.table.specs.declared.mode.Move.{Move}
use Rattle.table.specs.declared.mode.Move.TheVariants as move
use Rattle.table.specs.Entries.{lookup, entries}
use Rattle.reader.specs.declared.frame.Frame.{Frame}
use Rattle.reader.specs.Runs.{blank_run, characters_by, by_value, plain_run, call_run, value_run, struct_run, run_row}
use Rattle.reader.specs.Steps.{St, st, and_then, leave, nest, act, step, is_finished, room_for, judge, put_at}
use Rattle.reader.specs.Contents.{content_of}
use Rattle.reader.specs.Reading.{read_from, reading, rows_in, rows_of}
use Rattle.wire.specs.Trees.{Content}
use Rattle.held.specs.Stored.{memory_of, text_by, said_by, sayings}

abbrev Lies : Span → Type 0
Lies span = span.store ≡ store.Message

abbrev pub InMessage : Row → Type 0
InMessage row = Lies row.text

abbrev Good : {A : Type 0} → (A → Type 0) → Result A Refusal → Type 0
Good P (Ok x) = P x
Good P (Err e) = Unit {0}

by_cond : {A : Type 0} (P : A → Type 0) (b : Bool) (x : A) (e : Refusal) → P x → Good P (cond b (Ok x) (Err e))
by_cond P true x e h = h
by_cond P false x e h = tt

by_value_lem : {X : Type 0} (p : ℕ) (o : Option X) (row : X → Row) → ((x : X) → InMessage (row x)) → Good InMessage (by_value p o row)
by_value_lem p (Some x) row h = h x
by_value_lem p None row h = tt

by_characters : (row : Row) (p : ℕ) (r : Result ℕ BadCharacters) → InMessage row → Good InMessage (characters_by row p r)
by_characters row p (Ok n) h = h
by_characters row p (Err (Reference at)) h = tt
by_characters row p (Err Byte) h = tt

blank_run_lem : (p : ℕ) (bs : List ℕ) → Good InMessage (blank_run p bs)
blank_run_lem p bs = by_cond InMessage _ _ _ refl

plain_run_lem : (t : Plain) (p : ℕ) (bs : List ℕ) → Good InMessage (plain_run t p bs)
plain_run_lem plain.Int p bs = by_value_lem p _ _ (λ _. refl)
plain_run_lem plain.I4 p bs = by_value_lem p _ _ (λ _. refl)
plain_run_lem plain.Boolean p bs = by_value_lem p _ _ (λ _. refl)
plain_run_lem plain.String p bs = by_characters _ p (counted bs) refl
plain_run_lem plain.Double p bs = by_value_lem p _ _ (λ _. refl)
plain_run_lem plain.Date p bs = by_value_lem p _ _ (λ _. refl)
plain_run_lem plain.Base64 p bs = by_cond InMessage _ _ _ refl

value_run_lem : (m : ValueMode) (t : Tag) (p : ℕ) (bs : List ℕ) → Good InMessage (value_run m t p bs)
value_run_lem value.Begun (Open n) p bs = blank_run_lem p bs
value_run_lem value.Begun (Close n) p bs = by_characters _ p (counted bs) refl
value_run_lem (value.Text k) t p bs = plain_run_lem k p bs
value_run_lem value.Typed t p bs = blank_run_lem p bs

call_run_lem : (m : CallMode) (p : ℕ) (bs : List ℕ) → Good InMessage (call_run m p bs)
call_run_lem call.Begun p bs = blank_run_lem p bs
call_run_lem call.Name p bs = by_cond InMessage _ _ _ refl
call_run_lem call.Named p bs = blank_run_lem p bs
call_run_lem call.Params p bs = blank_run_lem p bs
call_run_lem call.Param p bs = blank_run_lem p bs
call_run_lem call.ParamDone p bs = blank_run_lem p bs
call_run_lem call.Done p bs = blank_run_lem p bs

struct_run_lem : (m : StructMode) (p : ℕ) (bs : List ℕ) → Good InMessage (struct_run m p bs)
struct_run_lem struct.Members p bs = blank_run_lem p bs
struct_run_lem struct.Member p bs = blank_run_lem p bs
struct_run_lem struct.Name p bs = by_characters _ p (counted bs) refl
struct_run_lem struct.Named p bs = blank_run_lem p bs
struct_run_lem struct.MemberDone p bs = blank_run_lem p bs

run_row_lem : (m : Mode) (t : Tag) (p : ℕ) (bs : List ℕ) → Good InMessage (run_row m t p bs)
run_row_lem Start t p bs = blank_run_lem p bs
run_row_lem (Call m) t p bs = call_run_lem m p bs
run_row_lem (Response m) t p bs = blank_run_lem p bs
run_row_lem (Value m) t p bs = value_run_lem m t p bs
run_row_lem (Struct m) t p bs = struct_run_lem m p bs
run_row_lem (Array m) t p bs = blank_run_lem p bs
run_row_lem Finished t p bs = blank_run_lem p bs

put_row : (rs : List Row) (n : ℕ) (r : Row) → AllByRecursion InMessage rs → InMessage r → AllByRecursion InMessage (put_at rs n r)
put_row [] n r all h = (h, tt)
put_row (x ∷ xs) zero r all h = (h, all.1)
put_row (x ∷ xs) (suc n) r all h = (all.0, put_row xs n r all.1 h)

-- the rows so far, and the names in what is open
abbrev Held : St → Type 0
Held (st m fs u rs) = AllByRecursion (λ f. Lies f.name) fs × AllByRecursion InMessage rs

leaves : (fs : List Frame) (u : ℕ) (rs : List Row) → AllByRecursion (λ f. Lies f.name) fs → AllByRecursion InMessage rs → Held (leave fs u rs)
leaves [] u rs a b = (tt, b)
leaves (f ∷ fs) u rs a b = ((a.0, a.1), b)

nests : (room : Bool) (s : _) (fs : List Frame) (q u : ℕ) (rs : List Row) → AllByRecursion (λ f. Lies f.name) fs → AllByRecursion InMessage rs → Good Held (nest put_at room s fs q u rs)
nests true s fs q u rs a b = ((refl, a), put_row rs u _ b refl)
nests false s fs q u rs a b = tt

acts : (does : Option Move) (q : ℕ) (r : Row) (fs : List Frame) (u : ℕ) (rs : List Row) → InMessage r → AllByRecursion (λ f. Lies f.name) fs → AllByRecursion InMessage rs → Good Held (act put_at does q r fs u rs)
acts None q r fs u rs h a b = tt
acts (Some (move.Enter m)) q r fs u rs h a b = (a, b)
acts (Some (move.Emit m)) q r fs u rs h a b = (a, put_row rs u r b h)
acts (Some move.Word) q r fs u rs h a b = leaves fs _ _ a (put_row rs u r b h)
acts (Some move.Leave) q r fs u rs h a b = leaves fs u rs a b
acts (Some (move.Nest s)) q r fs u rs h a b = nests (room_for fs) s fs q u rs a b
acts (Some move.Unnest) q r [] u rs h a b = tt
acts (Some move.Unnest) q r (f ∷ fs) u rs h a b = (a.1, put_row rs f.row _ b a.0)
acts (Some move.Name) q r [] u rs h a b = tt
acts (Some move.Name) q r (f ∷ fs) u rs h a b = ((h, a.1), b)
acts (Some move.Fault) q r [] u rs h a b = tt
acts (Some move.Fault) q r (f ∷ fs) u rs h a b = ((a.0, a.1), b)

and_then_lem : {A B : Type 0} (P : A → Type 0) (Q : B → Type 0) (r : Result A Refusal) (f : A → Result B Refusal) → Good P r → ((x : A) → P x → Good Q (f x)) → Good Q (and_then r f)
and_then_lem P Q (Ok x) f h g = g x h
and_then_lem P Q (Err e) f h g = tt

steps : (s : St) (p : ℕ) (r : List ℕ) (q : ℕ) (t : Tag) → Held s → Good Held (step put_at s p r q t)
steps (st m fs u rs) p r q t h =
    and_then_lem InMessage Held (run_row m t p r) (λ row. act put_at (lookup t (entries m)) q row fs u rs) (run_row_lem m t p r) (λ row l. acts (lookup t (entries m)) q row fs u rs l h.0 h.1)

finishes : (done : Bool) (r : Result Row Refusal) (s : St) (len : ℕ) (e : Refusal) → Held s → Good Held (cond done (and_then r (λ _. Ok s)) (Err e))
finishes true (Ok x) s len e h = h
finishes true (Err d) s len e h = tt
finishes false r s len e h = tt

judges : (s : St) (p : ℕ) (r : List ℕ) (ps : Parts) (len : ℕ) → Held s → Good Held (judge put_at s p r ps len)
judges (st m fs u rs) p r ends len h = finishes (is_finished put_at m) (blank_run p r) (st m fs u rs) len _ h
judges s p r (broken q) len h = tt
judges s p r (run p' r' then ps) len h = judges s p' r' ps len h
judges s p r (tag q t then ps) len h = and_then_lem Held Held (step put_at s p r q t) (λ s'. judge put_at s' 0 [] ps len) (steps s p r q t h) (λ s' h'. judges s' 0 [] ps len h')

rows_in_lem : (r : Result St Refusal) → Good Held r → Good (AllByRecursion InMessage) (rows_in r)
rows_in_lem (Ok (st m fs u rs)) h = h.1
rows_in_lem (Err e) h = tt

reads : (msg : List ℕ) (o : Option ℕ) → Good (AllByRecursion InMessage) (rows_in (read_from put_at msg [] o))
reads msg None = tt
reads msg (Some n) =
    let parts = parts_from n (drop n msg) in
    rows_in_lem (judge put_at (st Start [] 0 []) 0 [] parts (length msg)) (judges (st Start [] 0 []) 0 [] parts (length msg) (tt, tt))

checked : (a b : Bool) (d e : Refusal) (r : Result (List Row) Refusal) → Good (AllByRecursion InMessage) r → Good (AllByRecursion InMessage) (cond a (Err d) (cond b r (Err e)))
checked true b d e r h = tt
checked false true d e r h = h
checked false false d e r h = tt

whole : (msg : List ℕ) → Good (AllByRecursion InMessage) (rows_of msg)
unfolding rows_of
whole msg = checked (ltb 65536 (length msg)) (eqb (prefix_len is_character msg) (length msg)) _ _ (rows_in (reading put_at msg [])) (reads msg (declaration_len msg))

pub texts_in_message : (msg : List ℕ) (rs : List Row) → rows_of msg ≡ Ok rs → AllByRecursion InMessage rs
texts_in_message msg rs e = subst (Good (AllByRecursion InMessage)) e (whole msg)

-- so rows that were read say as a held message what they say as read
said_as_read : (msg : List ℕ) (r : Row) → InMessage r → said_by msg [] r ≡ content_of msg r
said_as_read msg r e =
    let with_store : Store → Content = λ s. record { kind = r.kind; count = r.count; number = r.number; scale = r.scale; text = text_by s r (take r.text.len (drop r.text.start (memory_of msg [] s))) } in
    ap with_store e

each_as_read : (msg : List ℕ) (rs : List Row) → AllByRecursion InMessage rs → map (said_by msg []) rs ≡ map (content_of msg) rs
each_as_read msg [] all = refl
each_as_read msg (r ∷ rs) all = λ i. said_as_read msg r all.0 i ∷ each_as_read msg rs all.1 i

pub sayings_as_read : (msg : List ℕ) (rs : List Row) → rows_of msg ≡ Ok rs → sayings msg [] rs ≡ map (content_of msg) rs
unfolding sayings
sayings_as_read msg rs e = each_as_read msg rs (texts_in_message msg rs e)
