use Rattle.std.proofs.Common.{◌++◌, get_or, subst}
use Rattle.held.specs.Told.{no_row}
use Rattle.writer.specs.Pages.{Put}
use Rattle.writer.specs.Tables.{front_of, spelling_of, back_of}
use Rattle.writer.proofs.Places.{put_both}
use Rattle.writer.proofs.part.open.Goals as goal

pub returns : goal.returns
returns g c =
    let said = get_or (g.M.Held.said c.args.held.now) c.args.i no_row in
    let row = c.args.row in
    let last = c.put-2.new.self in
    let front = subst (λ l. Put c.args.pen.now l c.put.new.self) c.front.ensures c.put.ensures in
    let back = subst (λ l. Put c.put_spelling.new.pen l last) c.back.ensures c.put-2.ensures in
    let all = put_both (front_of row.kind) (spelling_of said row.kind ++ back_of row.kind row.count) front (put_both (spelling_of said row.kind) (back_of row.kind row.count) c.put_spelling.ensures back) in
    subst (λ f. Put c.args.pen.now (front_of f.kind ++ (spelling_of said f.kind ++ back_of f.kind f.count)) last) c.requires all
