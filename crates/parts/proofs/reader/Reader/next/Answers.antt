use Rattle.std.proofs.Common.{◌≡◌, ◌-◌, length, take, drop, sym, refl, ap, ◌∙◌, arith, length-drop}
use Rattle.std.specs.List.{prefix_len}
use Rattle.std.proofs.lemmas.List.{length-take-le}
use Rattle.std.proofs.lemmas.List.Sums.{prefix_len-le-length}
use Rattle.parts.specs.Cutting.{run, ◌then◌, parts_at_tag, in_run}
use Rattle.parts.specs.Readers.{parts_left, parts_by}
use Rattle.parts.proofs.Turns.{at_run}
use Rattle.parts.proofs.reader.Reader.next.Goals as goal

pub returns-in-Run : goal.returns-in-Run
unfolding parts_left
returns-in-Run c =
    let msg = c.args.self.now.message.now in
    let at = c.args.self.now.at in
    let after = c.cut_run.new.self in
    let left : parts_by after.next after.at (drop after.at after.message.now) ≡ parts_at_tag after.at (drop after.at msg) =
    (λ i. parts_by (c.cut_run.ensures.next i) after.at (drop after.at (c.cut_run.ensures.same i).now)) in
    record {
      same = c.cut_run.ensures.same;
      gives =
          ap (λ n. parts_by n at (drop at msg)) c.in-Run.is
          ∙ at_run msg at after.at c.cut_run.ensures.at
          ∙ (λ i. run (sym c.cut_run.ensures.place i) (sym c.cut_run.ensures.bytes i) then sym left i);
      inside =
          let all = prefix_len-le-length in_run (drop at msg) in
          let long = length-drop at msg in
          let short = ap length c.cut_run.ensures.bytes ∙ length-take-le (prefix_len in_run (drop at msg)) (drop at msg) all in
          omega (arith, short, c.cut_run.ensures.place, c.args.self.now.inside);
      borrows =
          let long : prefix_len in_run (drop at msg) ≡ after.at - c.cut_run.result.place = omega (arith, c.cut_run.ensures.at, c.cut_run.ensures.place) in
          c.cut_run.ensures.bytes ∙ (λ i. take (long i) (drop (sym c.cut_run.ensures.place i) (sym c.cut_run.ensures.same i).now));
    }

pub returns-in-EmptyRun : goal.returns-in-EmptyRun
unfolding parts_left
returns-in-EmptyRun c =
    let msg = c.args.self.now.message.now in
    let at = c.args.self.now.at in
    record { same = refl; gives = ap (λ n. parts_by n at (drop at msg)) c.in-EmptyRun.is; inside = omega (arith, c.args.self.now.inside); borrows = ap (λ k. take k (drop at msg)) (let none : 0 ≡ at - at = omega arith in none) }

pub returns-in-Close : goal.returns-in-Close
unfolding parts_left
returns-in-Close c =
    let msg = c.args.self.now.message.now in
    let at = c.args.self.now.at in
    record { same = refl; gives = ap (λ n. parts_by n at (drop at msg)) c.in-Close.is; inside = tt; borrows = refl }
