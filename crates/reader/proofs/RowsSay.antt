-- The rows of a derivation say what its tree says.
use Rattle.std.proofs.Common.{◌≡◌, ℕ, List, [], ◌∷◌, ◌++◌, map, length, take, drop, sym, refl, ap, ◌∙◌}
use mathlib.Core.List.{map-append}
use Rattle.wire.specs.declared.kind.Kind.TheVariants as kind
use Rattle.wire.specs.declared.row.Row.{Row}
use Rattle.wire.specs.Trees as tree
use Rattle.wire.specs.Trees.{Content, value_rows, members_rows, values_rows}
use Rattle.base64_texts.specs.Base64 as base64
use Rattle.characters.specs.Decoding as characters
use Rattle.characters.specs.Rule.{CharacterData}
use Rattle.characters.proofs.Reading as reading
use Rattle.parts.specs.Cutting.{Parts}
use Rattle.reader.specs.Contents.{content_of, InPlace}
use Rattle.reader.specs.Grammar.{AValue, ATyped, AreMembers, AreValues, AreParams, MayBeParams, run_alone, typed, an_int, an_i4, a_boolean, a_string, a_double, a_date, a_base64, a_struct, an_array, no_member, a_member, no_value, a_value, no_param, a_param, without, with_params}
use Rattle.reader.proofs.GoodRuns.{date_stands}
use Rattle.reader.proofs.Derived.{value_of, typed_of, members_of, values_of, params_of, may_be_of}

module _ (msg : List ℕ) where
  abbrev Says : List Row → List Content → Parts → Type 0
  Says rs cs qs = (map (content_of msg) rs ≡ cs) × InPlace msg qs

  -- the characters of a text that stands in the message
  decodes : (e : ℕ) {t cs : List ℕ} → t ≡ take (length t) (drop e msg) → CharacterData t cs → characters.decoded (take (length t) (drop e msg)) ≡ cs
  decodes e here d = ap characters.decoded (sym here) ∙ sym (reading.complete d).0

  mutual
    unfolding value_of typed_of members_of values_of value_rows members_rows values_rows

    pub value_says : {d : ℕ} {ps qs : Parts} {v : tree.Value} (x : AValue d ps qs v) → InPlace msg ps → Says (value_of x) (value_rows v) qs
    value_says (run_alone {e = e} h c) at = (ap (λ bs. tree.text_row kind.String bs ∷ []) (decodes e at.1.0 c), at.1.1)
    value_says (typed h v k) at = let s = typed_says v at.1 in (s.0, s.1.1)

    pub typed_says : {d : ℕ} {ps qs : Parts} {v : tree.Value} (x : ATyped d ps qs v) → InPlace msg ps → Says (typed_of x) (value_rows v) qs
    typed_says (an_int h i) at = (refl, at.1.1)
    typed_says (an_i4 h i) at = (refl, at.1.1)
    typed_says (a_boolean h i) at = (refl, at.1.1)
    typed_says (a_string {e = e} h c) at = (ap (λ bs. tree.text_row kind.String bs ∷ []) (decodes e at.1.0 c), at.1.1)
    typed_says (a_double h i) at = (refl, at.1.1)
    typed_says (a_date {e = e} {t = t} m h i) at = (ap (λ bs. tree.text_row kind.Date bs ∷ []) (date_stands msg e t m at.1.0 i), at.1.1)
    typed_says (a_base64 t h i) at = (ap (λ bs. tree.text_row kind.Base64 (base64.decoded bs) ∷ []) (sym at.1.0), at.1.1)
    typed_says (a_struct {ms = ms} h x k) at = let s = members_says x at.1 in (ap (λ l. tree.holder_row kind.Struct (tree.member_count ms) [] ∷ l) s.0, s.1.1)
    typed_says (an_array {vs = vs} h i x j k) at = let s = values_says x at.1.1 in (ap (λ l. tree.holder_row kind.Array (tree.value_count vs) [] ∷ l) s.0, s.1.1.1)

    pub members_says : {d : ℕ} {ps qs : Parts} {ms : tree.Members} (x : AreMembers d ps qs ms) → InPlace msg ps → Says (members_of x) (members_rows ms) qs
    members_says no_member at = (refl, at)
    members_says (a_member {e = e} h i c v k more) at =
        let s = value_says v at.1.1.1 in
        let r = members_says more s.1.1 in
        let row = decodes e at.1.1.0 c in
        let rest = map-append (content_of msg) (value_of v) (members_of more) in
        ((λ j. tree.holder_row kind.Member 1 (row j) ∷ (rest ∙ (λ k. s.0 k ++ r.0 k)) j), r.1)

    pub values_says : {d : ℕ} {ps qs : Parts} {vs : tree.Values} (x : AreValues d ps qs vs) → InPlace msg ps → Says (values_of x) (values_rows vs) qs
    values_says no_value at = (refl, at)
    values_says (a_value v more) at =
        let s = value_says v at in
        let r = values_says more s.1 in
        (map-append (content_of msg) (value_of v) (values_of more) ∙ (λ k. s.0 k ++ r.0 k), r.1)

  pub params_says : {ps qs : Parts} {vs : tree.Values} (x : AreParams ps qs vs) → InPlace msg ps → Says (params_of x) (values_rows vs) qs
  unfolding params_of values_rows
  params_says no_param at = (refl, at)
  params_says (a_param h v k more) at =
      let s = value_says v at.1 in
      let r = params_says more s.1.1 in
      (map-append (content_of msg) (value_of v) (params_of more) ∙ (λ k. s.0 k ++ r.0 k), r.1)

  pub call_says : {ps qs : Parts} {vs : tree.Values} (x : MayBeParams ps qs vs) → InPlace msg ps → Says (may_be_of x) (values_rows vs) qs
  unfolding may_be_of values_rows
  call_says without at = (refl, at)
  call_says (with_params h x k) at = let s = params_says x at.1 in (s.0, s.1.1)
