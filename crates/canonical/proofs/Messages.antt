-- The canonical form of a message that was read is that message by the grammar.
use Rattle.std.proofs.Common.{◌≡◌, ℕ, ◌≤◌, true, List, [], ◌++◌, length, drop, Some, sym, refl, subst, append-nil}
use Rattle.std.proofs.ByRecursion.{All-append}
use Rattle.wire.specs.Trees.{Value, Values, Message, end, value, call, response, fault}
use Rattle.characters.specs.References.{is_character, all_characters}
use Rattle.characters.proofs.Leading.{all_from_test}
use Rattle.characters.proofs.BodyBytes.{Good}
use Rattle.parts.specs.declared.name.Name.TheVariants as name
use Rattle.parts.specs.Cutting.{run, Parts, ends, ◌then◌, Cuts, last_run}
use Rattle.parts.specs.Declarations.{declaration_len}
use Rattle.reader.specs.Grammar.{AValue, AreParams, no_param, a_param, MayBeParams, without, with_params, AMessage, a_call, a_response, a_fault}
use Rattle.reader.specs.Derivations.{Derives}
use Rattle.canonical.specs.Forms.{declaration, element, value_form, params_form, call_params, message_form, canonical}
use Rattle.canonical.proofs.Pieces.{Reads, InTurn, in_turn, HoldsText, text, Holds, inside, nothing, both, so_is, holds_text, holds}
use Rattle.canonical.proofs.Texts.{method_text}
use Rattle.canonical.proofs.Values.{ValueReads, value_back}

abbrev ParamsRead : Values → Type 0
ParamsRead vs = Reads (params_form vs) (λ ps qs. AreParams ps qs vs)

param_reads : {v : Value} {vs : Values} → ValueReads 16 v → ParamsRead vs → ParamsRead (value v vs)
unfolding params_form
param_reads {v} {vs} r more = so_is (both (element name.Param (value_form v)) (params_form vs) (holds name.Param (value_form v) r) more) is where
  is : (ps qs : Parts) → InTurn (Holds name.Param (λ ps qs. AValue 16 ps qs v)) (λ ps qs. AreParams ps qs vs) ps qs → AreParams ps qs (value v vs)
  is ps qs (in_turn (inside x) xs) = a_param tt x tt xs

params_back : {ps qs : Parts} {vs : Values} → AreParams ps qs vs → ParamsRead vs
unfolding params_form
params_back no_param = nothing (λ ps. no_param)
params_back (a_param b v t more) = param_reads (value_back v) (params_back more)

abbrev CallParamsRead : Values → Type 0
CallParamsRead vs = Reads (call_params vs) (λ ps qs. MayBeParams ps qs vs)

call_params_lem : (vs : Values) → ParamsRead vs → CallParamsRead vs
unfolding call_params
call_params_lem end r = nothing (λ ps. without)
call_params_lem (value v more) r = so_is (holds name.Params (params_form (value v more)) r) is where
  is : (ps qs : Parts) → Holds name.Params (λ ps qs. AreParams ps qs (value v more)) ps qs → MayBeParams ps qs (value v more)
  is ps qs (inside x) = with_params tt x tt

call_params_back : {ps qs : Parts} {vs : Values} → MayBeParams ps qs vs → CallParamsRead vs
unfolding call_params
call_params_back without = nothing (λ ps. without)
call_params_back (with_params {vs = vs} b xs t) = call_params_lem vs (params_back xs)

-- the form of a message at a place: its bytes are good, and its parts are the message
pub record Written (m : Message) (p : ℕ) : Type 0 where
  pub good : Good (message_form m)
  pub parts : Parts
  pub cut : Cuts p (message_form m) parts
  pub is : AMessage parts m

-- a form at the end, with an empty run behind it
written : (m : Message) {Is : Parts → Parts → Type 0} → Reads (message_form m) Is → ((ps : Parts) (z : ℕ) → Is ps (run z [] then ends) → AMessage ps m) → (p : ℕ) → Written m p
written m r end_is p =
    let last = run (r.behind p) [] then ends in
    record {
      good = r.good;
      parts = r.parts p last;
      cut = subst (λ l. Cuts p l (r.parts p last)) (append-nil (message_form m)) (r.cut p (last_run tt));
      is = end_is (r.parts p last) (r.behind p) (r.is p last);
    }

pub message_back : {ps : Parts} {m : Message} → AMessage ps m → (p : ℕ) → Written m p
unfolding message_form
message_back (a_call {t = method} {vs = vs} b c good xs u w) =
    written (call method vs) (holds name.MethodCall (element name.MethodName method ++ call_params vs) (both (element name.MethodName method) (call_params vs) (holds_text name.MethodName method (method_text method good)) (call_params_back xs))) is where
      is : (ps : Parts) (z : ℕ) → Holds name.MethodCall (InTurn (HoldsText name.MethodName method) (λ ps qs. MayBeParams ps qs vs)) ps (run z [] then ends) → AMessage ps (call method vs)
      is ps z (inside (in_turn text ys)) = a_call tt tt good ys tt tt
message_back (a_response {v = v} b c k x t u y w) =
    written (response v) (holds name.MethodResponse (element name.Params (element name.Param (value_form v))) (holds name.Params (element name.Param (value_form v)) (holds name.Param (value_form v) (value_back x)))) is where
      is : (ps : Parts) (z : ℕ) → Holds name.MethodResponse (Holds name.Params (Holds name.Param (λ ps qs. AValue 16 ps qs v))) ps (run z [] then ends) → AMessage ps (response v)
      is ps z (inside (inside (inside x))) = a_response tt tt tt x tt tt tt tt
message_back (a_fault {v = v} b c x t u w) =
    written (fault v) (holds name.MethodResponse (element name.Fault (value_form v)) (holds name.Fault (value_form v) (value_back x))) is where
      is : (ps : Parts) (z : ℕ) → Holds name.MethodResponse (Holds name.Fault (λ ps qs. AValue 16 ps qs v)) ps (run z [] then ends) → AMessage ps (fault v)
      is ps z (inside (inside x)) = a_fault tt tt x tt tt tt

declaration_good : Good declaration
unfolding declaration all_characters
declaration_good = all_from_test declaration refl

-- the bytes of a canonical form may stand in a message
pub canonical_good : {ps : Parts} {m : Message} → AMessage ps m → Good (canonical m)
unfolding canonical
canonical_good {m = m} is = All-append (λ b. is_character b ≡ true) declaration (message_form m) declaration_good (message_back is 21).good

declared : (form : List ℕ) → (declaration_len (declaration ++ form) ≡ Some 21) × (drop 21 (declaration ++ form) ≡ form)
unfolding declaration declaration_len
declared form = (refl, refl)

pub canonical_derives : {ps : Parts} {m : Message} → AMessage ps m → length (canonical m) ≤ 65536 → Derives (canonical m) m
unfolding canonical
canonical_derives {m = m} is short =
    let w = message_back is 21 in
    let front = declared (message_form m) in
    record {
      short = short;
      bytes = canonical_good is;
      start = 21;
      declared = front.0;
      parts = w.parts;
      cut = subst (λ l. Cuts 21 l w.parts) (sym front.1) w.cut;
      is = w.is;
    }
