-- Rows that say a message hold members in their structs.
use Rattle.std.proofs.Common.{◌≡◌, ℕ, ◌<◌, List, map, length, get_or, sym, ap, ◌∙◌, subst, arith}
use Rattle.std.proofs.lemmas.List.{get_or-map, length-map}
use Rattle.wire.specs.declared.kind.Kind.TheVariants as kind
use Rattle.wire.specs.declared.row.Row.{Row}
use Rattle.wire.specs.Rows.{blank_row}
use Rattle.wire.specs.Trees.{Content, Message}
use Rattle.reader.specs.Contents.{content_of}
use Rattle.reader.specs.Derivations.{Say}
use Rattle.messages.specs.Holding.{part_at, counts_of}
use Rattle.messages.specs.Repeats.{StructsHold}
use Rattle.messages.proofs.HeldParts.{StructAt, struct_at, struct_count, a_member_row}
use Rattle.messages.proofs.RepeatedNames.{counts_same}

module _ (msg : List ℕ) (rows : List Row) (m : Message) (say : Say msg rows m) where
  abbrev said : List Content
  said = map (content_of msg) rows

  long : length said ≡ length rows
  long = length-map rows (content_of msg)

  row : (i : ℕ) (d : Content) → i < length rows → get_or said i d ≡ content_of msg (get_or rows i blank_row)
  row i d lt = get_or-map (content_of msg) rows i blank_row d lt

  at : (s : ℕ) → s < length rows → (get_or rows s blank_row).kind ≡ kind.Struct → StructAt said s
  at s lt is =
      subst (λ l. StructAt l s) (sym say)
      (struct_at m s (omega (arith, lt, long, ap length say)) (λ d. ap (λ l. (get_or l s d).kind) (sym say) ∙ ap (λ r. r.kind) (row s d lt) ∙ is))

  pub structs_hold : StructsHold rows
  structs_hold s k lt is l =
      let here = at s lt is in
      let d = content_of msg blank_row in
      let count = struct_count said s here d in
      let own = ap (λ r. r.count) (row s d lt) in
      let held = a_member_row said s here k (omega (arith, l, count, own)) in
      let same : part_at (map (λ r. r.count) said) s k ≡ part_at (counts_of rows) s k = ap (λ c. part_at c s k) (counts_same msg rows) in
      let inside : part_at (counts_of rows) s k < length rows = omega (arith, held.0, same, long) in
      (inside, sym (ap (λ r. r.kind) (row (part_at (counts_of rows) s k) d inside)) ∙ ap (λ i. (get_or said i d).kind) (sym same) ∙ held.1 d)
