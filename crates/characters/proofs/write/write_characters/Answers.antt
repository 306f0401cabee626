use Rattle.std.proofs.Common.{◌≡◌, ◌+◌, ◌<◌, ◌++◌, length, get_or, take, drop, sym, ap, ◌∙◌, arith, length-append}
use Rattle.characters.specs.Spelling.{escape, characters_spelling}
use Rattle.characters.proofs.Pages.{own_spelling, length_more, spelling_more, page_put}
use Rattle.characters.proofs.ReadBack.{reads_back}
use Rattle.characters.proofs.write.write_characters.Goals as goal

pub returns-in_err-len-clause-reads_back : goal.returns-in_err-len-clause-reads_back
returns-in_err-len-clause-reads_back c = reads_back c.args.plain.now

pub returns-then-len-page-clause-reads_back : goal.returns-then-len-page-clause-reads_back
returns-then-len-page-clause-reads_back c = reads_back c.args.plain.now

pub returns-then-len-plain-clause-reads_back : goal.returns-then-len-plain-clause-reads_back
returns-then-len-plain-clause-reads_back c = reads_back c.args.plain.now

pub returns-then-len-plain-clause-written : goal.returns-then-len-plain-clause-written
returns-then-len-plain-clause-written c =
    let plain = c.args.plain.now in
    let old = c.args.page.now in
    let long = c.in_ok-len.ensures in
    let same : c.copy_from_slice.new.self ≡ characters_spelling plain = c.copy_from_slice.ensures.after ∙ sym (own_spelling plain (sym long ∙ c.if-len-plain.true)) in
    (long, omega (arith, long, c.if-len-page.false), (λ i. same i ++ drop (long i) old))

pub loop-b-preserved : goal.loop-b-preserved
loop-b-preserved c =
    let plain = c.args.plain.now in
    let i = c.loop-b.b-index in
    let at = c.loop-b.at in
    let old = c.args.page.now in
    let short : i < length plain = omega arith in
    let t = escape (get_or plain i 0) in
    let w = characters_spelling (take i plain) in
    let step = length_more plain i short in
    let more = spelling_more plain i short in
    let long : length (characters_spelling (take (i + 1) plain)) ≡ length w + length t = ap length more ∙ length-append w t in
    let put = page_put old c.loop-b.page w t c.put-at.new.page at c.loop-b.invariant.2 c.loop-b.invariant.1 c.put-at.ensures.page in
    (omega arith, put ∙ ap (λ l. l ++ drop (at + length t) old) (sym more) ∙ ap (λ k. characters_spelling (take (i + 1) plain) ++ drop (at + k) old) (sym c.put-at.ensures.len), omega arith)

pub returns-clause-reads_back : goal.returns-clause-reads_back
returns-clause-reads_back c = reads_back c.args.plain.now
