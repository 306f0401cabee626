-- Messages as trees, and the rows by which a tree is held.
use Rattle.std.specs.Prelude.{ℕ, ◌+◌, Bool, cond, List, [], ◌∷◌, ◌++◌, ℤ, pos}
use Rattle.wire.specs.declared.kind.Kind.{Kind}
use Rattle.wire.specs.declared.kind.Kind.TheVariants as kind

-- what a row says: a number and a scale for numbers, the text as read for texts, and for what
-- holds others how many it holds
pub record Content : Type 0 where
  pub kind : Kind
  pub count : ℕ
  pub number : ℤ
  pub scale : ℕ
  pub text : List ℕ

mutual
  -- a value: one of the six plain ones, a struct of members or an array of values
  pub data Value : Type 0 where
    int : ℤ → Value
    boolean : Bool → Value
    string : List ℕ → Value
    double : ℤ → ℕ → Value
    date : List ℕ → Value
    base64 : List ℕ → Value
    struct : Members → Value
    array : Values → Value

  -- the named values of a struct, in their order
  pub data Members : Type 0 where
    none : Members
    member : List ℕ → Value → Members → Members

  -- values in their order
  pub data Values : Type 0 where
    end : Values
    value : Value → Values → Values

-- a call with its method's name and its parameters, a response with its value, or a fault with its value
pub data Message : Type 0 where
  call : List ℕ → Values → Message
  response : Value → Message
  fault : Value → Message

abbrev pub member_count : Members → ℕ
member_count none = 0
member_count (member name v rest) = 1 + member_count rest

abbrev pub value_count : Values → ℕ
value_count end = 0
value_count (value v rest) = 1 + value_count rest

-- the row of a text, of a number, and of what holds others
abbrev pub text_row : Kind → List ℕ → Content
text_row k text = record { kind = k; count = 0; number = pos 0; scale = 0; text = text }

abbrev pub number_row : Kind → ℤ → ℕ → Content
number_row k number scale = record { kind = k; count = 0; number = number; scale = scale; text = [] }

abbrev pub holder_row : Kind → ℕ → List ℕ → Content
holder_row k count text = record { kind = k; count = count; number = pos 0; scale = 0; text = text }

unfoldable mutual
  -- the rows of a value in reading order: its own, then those of its parts
  pub value_rows : Value → List Content
  value_rows (int n) = number_row kind.Int n 0 ∷ []
  value_rows (boolean b) = number_row kind.Boolean (pos (cond b 1 0)) 0 ∷ []
  value_rows (string text) = text_row kind.String text ∷ []
  value_rows (double n scale) = number_row kind.Double n scale ∷ []
  value_rows (date text) = text_row kind.Date text ∷ []
  value_rows (base64 text) = text_row kind.Base64 text ∷ []
  value_rows (struct ms) = holder_row kind.Struct (member_count ms) [] ∷ members_rows ms
  value_rows (array vs) = holder_row kind.Array (value_count vs) [] ∷ values_rows vs

  -- a member's row has its name, and its value's rows follow
  pub members_rows : Members → List Content
  members_rows none = []
  members_rows (member name v rest) = holder_row kind.Member 1 name ∷ (value_rows v ++ members_rows rest)

  pub values_rows : Values → List Content
  values_rows end = []
  values_rows (value v rest) = value_rows v ++ values_rows rest

-- the rows of a message; a call's has the method's name
abbrev pub message_rows : Message → List Content
message_rows (call name params) = holder_row kind.Call (value_count params) name ∷ values_rows params
message_rows (response v) = holder_row kind.Response 1 [] ∷ value_rows v
message_rows (fault v) = holder_row kind.Fault 1 [] ∷ value_rows v
