-- Past the first row of a message stand the rows of values and members alone.
use Rattle.std.proofs.Common.{◌≡◌, ◌≤◌, List, refl, ap, inl, inr, arith, lit≤}
use Rattle.std.specs.List.{AllByRecursion}
use Rattle.std.proofs.ByRecursion.{All-append, All-weaker}
use Rattle.wire.specs.declared.kind.Kind.{Kind}
use Rattle.wire.specs.declared.kind.Kind.TheVariants as kind
use Rattle.wire.specs.Kinds.{kind_number}
use Rattle.wire.specs.Trees.{Content, Value, Members, Values, int, boolean, string, double, date, base64, struct, array, none, member, end, value, call, response, fault, value_rows, members_rows, values_rows}
use Rattle.wire.specs.RowLaws.{Opens, FirstRowOpens, NoRowIsBlank}

-- the row of a value or a member: the kinds are numbered from 4 on
abbrev Inner : Content → Type 0
Inner row = 4 ≤ kind_number row.kind

mutual
  unfolding value_rows members_rows values_rows

  inner_value : (v : Value) → AllByRecursion Inner (value_rows v)
  inner_value (int n) = (lit≤ tt, tt)
  inner_value (boolean b) = (lit≤ tt, tt)
  inner_value (string text) = (lit≤ tt, tt)
  inner_value (double n scale) = (lit≤ tt, tt)
  inner_value (date text) = (lit≤ tt, tt)
  inner_value (base64 text) = (lit≤ tt, tt)
  inner_value (struct ms) = (lit≤ tt, inner_members ms)
  inner_value (array vs) = (lit≤ tt, inner_values vs)

  inner_members : (ms : Members) → AllByRecursion Inner (members_rows ms)
  inner_members none = tt
  inner_members (member name v rest) = (lit≤ tt, All-append Inner (value_rows v) (members_rows rest) (inner_value v) (inner_members rest))

  inner_values : (vs : Values) → AllByRecursion Inner (values_rows vs)
  inner_values end = tt
  inner_values (value v rest) = All-append Inner (value_rows v) (values_rows rest) (inner_value v) (inner_values rest)

inner_not_opening : (row : Content) → Inner row → Opens row.kind → ⊥
inner_not_opening row h (inl e) = omega (arith, ap kind_number e)
inner_not_opening row h (inr (inl e)) = omega (arith, ap kind_number e)
inner_not_opening row h (inr (inr e)) = omega (arith, ap kind_number e)

unopened : (rows : List Content) → AllByRecursion Inner rows → AllByRecursion (λ row. Opens row.kind → ⊥) rows
unopened = All-weaker Inner (λ row. Opens row.kind → ⊥) inner_not_opening

pub first_row_opens : FirstRowOpens
first_row_opens (call name vs) = (_, _, refl, inl refl, unopened (values_rows vs) (inner_values vs))
first_row_opens (response v) = (_, _, refl, inr (inl refl), unopened (value_rows v) (inner_value v))
first_row_opens (fault v) = (_, _, refl, inr (inr refl), unopened (value_rows v) (inner_value v))

inner_not_blank : (row : Content) → Inner row → row.kind ≡ kind.Blank → ⊥
inner_not_blank row h e = omega (arith, ap kind_number e)

unblank : (rows : List Content) → AllByRecursion Inner rows → AllByRecursion (λ row. row.kind ≡ kind.Blank → ⊥) rows
unblank = All-weaker Inner (λ row. row.kind ≡ kind.Blank → ⊥) inner_not_blank

opening_not_blank : (k : Kind) → Opens k → k ≡ kind.Blank → ⊥
opening_not_blank k (inl p) e = omega (arith, ap kind_number p, ap kind_number e)
opening_not_blank k (inr (inl p)) e = omega (arith, ap kind_number p, ap kind_number e)
opening_not_blank k (inr (inr p)) e = omega (arith, ap kind_number p, ap kind_number e)

pub no_row_is_blank : NoRowIsBlank
no_row_is_blank (call name vs) = (opening_not_blank kind.Call (inl refl), unblank (values_rows vs) (inner_values vs))
no_row_is_blank (response v) = (opening_not_blank kind.Response (inr (inl refl)), unblank (value_rows v) (inner_value v))
no_row_is_blank (fault v) = (opening_not_blank kind.Fault (inr (inr refl)), unblank (value_rows v) (inner_value v))
