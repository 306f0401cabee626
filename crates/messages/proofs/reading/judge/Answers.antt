use Rattle.std.proofs.Common.{sym, ◌∙◌, subst, arith}
use Rattle.std.proofs.lemmas.List.{length-map}
use Rattle.std.proofs.lemmas.Bool.{false≢true}
use Rattle.reader.specs.Contents.{content_of}
use Rattle.messages.specs.Answers.{name_repeats, bad_fault}
use Rattle.messages.specs.Repeats.{RepeatAt}
use Rattle.messages.proofs.HoldStructs.{structs_hold}
use Rattle.messages.proofs.reading.judge.Goals as goal

pub first_repeat-requires : goal.first_repeat-requires
first_repeat-requires c = structs_hold c.args.parsed.message.now c.args.parsed.rows.now c.requires.0 c.requires.1

pub offset_bounds-parsed-i : goal.offset_bounds-parsed-i
offset_bounds-parsed-i c = omega (arith, c.in-Some.ensures.0.1.inside, length-map c.args.parsed.rows.now (content_of c.args.parsed.message.now), c.args.parsed.few)

pub bounds-parsed-i : goal.bounds-parsed-i
bounds-parsed-i c = omega (arith, c.in-Some.ensures.0.1.inside, length-map c.args.parsed.rows.now (content_of c.args.parsed.message.now))

pub returns-in-Some : goal.returns-in-Some
returns-in-Some c = name_repeats c.in-Some.i c.in-Some.ensures

pub returns-then-not-fault_fits : goal.returns-then-not-fault_fits
returns-then-not-fault_fits c =
    let m = c.requires.0 in
    let say = c.requires.1 in
    bad_fault m say (λ i r. c.in_default.ensures i (subst (λ l. RepeatAt l i) (sym say) r)) (λ f. false≢true (sym c.if-not-fault_fits.true ∙ (c.fault_fits.ensures m say).1 f))

pub returns : goal.returns
returns c =
    let m = c.requires.0 in
    let say = c.requires.1 in
    record {
      tree = m;
      says = say;
      names = λ i r. c.in_default.ensures i (subst (λ l. RepeatAt l i) (sym say) r);
      fault = (c.fault_fits.ensures m say).0 c.if-not-fault_fits.false;
    }
