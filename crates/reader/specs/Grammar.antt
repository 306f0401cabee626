-- The grammar: which parts are a message, and its tree.
-- Each relation says that parts begin with an element, which derives a tree, and go on with other parts.
-- A run stands before every tag, and is blank where no text is named. At most d structs and arrays may still open.
use Rattle.std.specs.Prelude.{◌≡◌, ℕ, suc, Bool, true, List, ℤ, Some}
use Rattle.wire.specs.Trees.{Value, Members, Values, Message, int, boolean, string, double, date, base64, struct, array, none, member, end, value, call, response, fault}
use Rattle.texts.specs.Booleans.{boolean_of}
use Rattle.texts.specs.Methods.{is_method_name}
use Rattle.numbers.specs.Ints.{int_of}
use Rattle.numbers.specs.Doubles.{double_of}
use Rattle.dates.specs.Moments.{Moment, date_of, date_spelling}
use Rattle.base64_texts.specs.Base64.{is_base64, decoded}
use Rattle.characters.specs.Rule.{CharacterData}
use Rattle.parts.specs.declared.name.Name.TheVariants as name
use Rattle.parts.specs.declared.tag.Tag.TheVariants.{Open, Close}
use Rattle.parts.specs.Cutting.{run, tag, Parts, ends, ◌then◌, AreBlank}

mutual
  -- a value holds one typed element, or a run alone, which is then a string
  pub data AValue : ℕ → Parts → Parts → Value → Type 0 where
    run_alone : {d a p e q : ℕ} {b t cs : List ℕ} {qs : Parts} → AreBlank b → CharacterData t cs →
        AValue d (run a b then tag p (Open name.Value) then run e t then tag q (Close name.Value) then qs) qs (string cs)
    typed : {d a p e q : ℕ} {b t : List ℕ} {ps qs : Parts} {v : Value} → AreBlank b →
        ATyped d ps (run e t then tag q (Close name.Value) then qs) v → AreBlank t →
        AValue d (run a b then tag p (Open name.Value) then ps) qs v

  -- a typed element
  pub data ATyped : ℕ → Parts → Parts → Value → Type 0 where
    an_int : {d a p e q : ℕ} {b t : List ℕ} {z : ℤ} {qs : Parts} → AreBlank b → int_of t ≡ Some z →
        ATyped d (run a b then tag p (Open name.Int) then run e t then tag q (Close name.Int) then qs) qs (int z)
    an_i4 : {d a p e q : ℕ} {b t : List ℕ} {z : ℤ} {qs : Parts} → AreBlank b → int_of t ≡ Some z →
        ATyped d (run a b then tag p (Open name.I4) then run e t then tag q (Close name.I4) then qs) qs (int z)
    a_boolean : {d a p e q : ℕ} {b t : List ℕ} {v : Bool} {qs : Parts} → AreBlank b → boolean_of t ≡ Some v →
        ATyped d (run a b then tag p (Open name.Boolean) then run e t then tag q (Close name.Boolean) then qs) qs (boolean v)
    a_string : {d a p e q : ℕ} {b t cs : List ℕ} {qs : Parts} → AreBlank b → CharacterData t cs →
        ATyped d (run a b then tag p (Open name.String) then run e t then tag q (Close name.String) then qs) qs (string cs)
    a_double : {d a p e q s : ℕ} {b t : List ℕ} {z : ℤ} {qs : Parts} → AreBlank b → double_of t ≡ Some (z, s) →
        ATyped d (run a b then tag p (Open name.Double) then run e t then tag q (Close name.Double) then qs) qs (double z s)
    a_date : {d a p e q : ℕ} {b t : List ℕ} (m : Moment) {qs : Parts} → AreBlank b → date_of t ≡ Some m →
        ATyped d (run a b then tag p (Open name.DateTime) then run e t then tag q (Close name.DateTime) then qs) qs (date (date_spelling m))
    a_base64 : {d a p e q : ℕ} {b : List ℕ} (t : List ℕ) {qs : Parts} → AreBlank b → is_base64 t ≡ true →
        ATyped d (run a b then tag p (Open name.Base64) then run e t then tag q (Close name.Base64) then qs) qs (base64 (decoded t))
    -- a struct holds any number of member
    a_struct : {d a p e q : ℕ} {b t : List ℕ} {ps qs : Parts} {ms : Members} → AreBlank b →
        AreMembers d ps (run e t then tag q (Close name.Struct) then qs) ms → AreBlank t →
        ATyped (suc d) (run a b then tag p (Open name.Struct) then ps) qs (struct ms)
    -- an array holds one data, which holds any number of value
    an_array : {d a p o s e q f r : ℕ} {b c t u : List ℕ} {ps qs : Parts} {vs : Values} → AreBlank b → AreBlank c →
        AreValues d ps (run e t then tag q (Close name.Data) then run f u then tag r (Close name.Array) then qs) vs → AreBlank t → AreBlank u →
        ATyped (suc d) (run a b then tag p (Open name.Array) then run o c then tag s (Open name.Data) then ps) qs (array vs)

  -- a member holds a name and a value
  pub data AreMembers : ℕ → Parts → Parts → Members → Type 0 where
    no_member : {d : ℕ} {ps : Parts} → AreMembers d ps ps none
    a_member : {d a p g s e q f r : ℕ} {b c t u cs : List ℕ} {ps qs zs : Parts} {v : Value} {ms : Members} →
        AreBlank b → AreBlank c → CharacterData t cs →
        AValue d ps (run f u then tag r (Close name.Member) then qs) v → AreBlank u → AreMembers d qs zs ms →
        AreMembers d (run a b then tag p (Open name.Member) then run g c then tag s (Open name.MemberName) then run e t then tag q (Close name.MemberName) then ps) zs (member cs v ms)

  pub data AreValues : ℕ → Parts → Parts → Values → Type 0 where
    no_value : {d : ℕ} {ps : Parts} → AreValues d ps ps end
    a_value : {d : ℕ} {ps qs zs : Parts} {v : Value} {vs : Values} → AValue d ps qs v → AreValues d qs zs vs → AreValues d ps zs (value v vs)

-- any number of param, each of which holds one value
pub data AreParams : Parts → Parts → Values → Type 0 where
  no_param : {ps : Parts} → AreParams ps ps end
  a_param : {a p e q : ℕ} {b t : List ℕ} {ps qs zs : Parts} {v : Value} {vs : Values} → AreBlank b →
      AValue 16 ps (run e t then tag q (Close name.Param) then qs) v → AreBlank t → AreParams qs zs vs →
      AreParams (run a b then tag p (Open name.Param) then ps) zs (value v vs)

-- at most one params
pub data MayBeParams : Parts → Parts → Values → Type 0 where
  without : {ps : Parts} → MayBeParams ps ps end
  with_params : {a p e q : ℕ} {b t : List ℕ} {ps qs : Parts} {vs : Values} → AreBlank b →
      AreParams ps (run e t then tag q (Close name.Params) then qs) vs → AreBlank t →
      MayBeParams (run a b then tag p (Open name.Params) then ps) qs vs

-- a message is a methodCall or a methodResponse, and blanks
pub data AMessage : Parts → Message → Type 0 where
  -- a call is a methodCall with one methodName and at most one params
  a_call : {a p g s e q f r z : ℕ} {b c t u w : List ℕ} {ps : Parts} {vs : Values} → AreBlank b → AreBlank c → is_method_name t ≡ true →
      MayBeParams ps (run f u then tag r (Close name.MethodCall) then run z w then ends) vs → AreBlank u → AreBlank w →
      AMessage (run a b then tag p (Open name.MethodCall) then run g c then tag s (Open name.MethodName) then run e t then tag q (Close name.MethodName) then ps) (call t vs)
  -- a response is a methodResponse with one params holding one param
  a_response : {a p g s h o e q f r i j z : ℕ} {b c k t u x w : List ℕ} {ps : Parts} {v : Value} → AreBlank b → AreBlank c → AreBlank k →
      AValue 16 ps (run e t then tag q (Close name.Param) then run f u then tag r (Close name.Params) then run i x then tag j (Close name.MethodResponse) then run z w then ends) v →
      AreBlank t → AreBlank u → AreBlank x → AreBlank w →
      AMessage (run a b then tag p (Open name.MethodResponse) then run g c then tag s (Open name.Params) then run h k then tag o (Open name.Param) then ps) (response v)
  -- or with one fault
  a_fault : {a p g s e q f r z : ℕ} {b c t u w : List ℕ} {ps : Parts} {v : Value} → AreBlank b → AreBlank c →
      AValue 16 ps (run e t then tag q (Close name.Fault) then run f u then tag r (Close name.MethodResponse) then run z w then ends) v →
      AreBlank t → AreBlank u → AreBlank w →
      AMessage (run a b then tag p (Open name.MethodResponse) then run g c then tag s (Open name.Fault) then ps) (fault v)
