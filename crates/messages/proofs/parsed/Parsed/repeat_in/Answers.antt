use Rattle.std.proofs.Common.{◌+◌, ◌<◌, length, Ok, sym, ap, ◌∙◌, subst, arith}
use Rattle.characters.specs.Decoding.{decoded}
use Rattle.messages.specs.Sorted.{name_at, Belongs, IsPlaceOf}
use Rattle.messages.proofs.Seen.{Seen, seen_more}
use Rattle.messages.proofs.parsed.Parsed.repeat_in.Goals as goal

pub returns-in-Ok : goal.returns-in-Ok
returns-in-Ok c =
    let msg = c.args.self.message.now in
    let rows = c.args.self.rows.now in
    let seen = c.loop-known.invariant in
    let found = subst (λ sorted. IsPlaceOf msg rows sorted (decoded c.cut-name.result.now) (Ok c.in-Ok.field-0)) c.as_slice.ensures c.in-Ok.ensures in
    let old = seen.comes c.in-Ok.field-0 (omega (arith, found.0, seen.many)) in (
      c.loop-known.known,
      c.loop-known-test.true,
      record {
        here = seen.here;
        differ = seen.differ;
        earlier = old.0;
        before = old.1;
        same = ap (name_at msg rows) (sym old.2) ∙ found.1 ∙ ap decoded c.cut-name.ensures ∙ ap (name_at msg rows) seen.here;
      },
    )

pub loop-known-preserved : goal.loop-known-preserved
loop-known-preserved c =
    let msg = c.args.self.message.now in
    let rows = c.args.self.rows.now in
    let seen = c.loop-known.invariant in
    let place = c.in-Err.place in
    let lt : c.loop-known.member < length rows = omega (arith, seen.here, c.requires.held c.loop-known.known c.loop-known-test.true) in
    let belongs = subst (λ sorted. Belongs msg rows sorted (decoded c.cut-name.result.now) place) c.as_slice.ensures c.in-Err.ensures in
    let named = subst (λ name. Belongs msg rows c.loop-known.sorted (decoded name) place) c.cut-name.ensures belongs in
    let more = seen_more msg rows c.args.at c.loop-known.known c.loop-known.member place c.loop-known.sorted seen lt named c.past_part-member.result c.past_part-member.ensures.value c.past_part-member.ensures.within in
    subst (Seen msg rows c.args.at (c.loop-known.known + 1) c.past_part-member.result) (sym c.insert.ensures) more
