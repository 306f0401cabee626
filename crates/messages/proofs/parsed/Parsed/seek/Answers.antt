use Rattle.std.proofs.Common.{rules}
use Rattle.std.proofs.lemmas.Fn.{always_returns_same}
use Rattle.characters.specs.Decoding.{decoded}
use Rattle.messages.proofs.Seeking.{stands, sought}
use Rattle.messages.proofs.parsed.Parsed.seek.Goals as goal

pub returns : goal.returns
returns c =
    let msg = c.args.self.message.now in
    let rows = c.args.self.rows.now in
    let name = decoded c.args.name.now in
    sought msg rows c.args.sorted.now name c.requires c.binary_search_by.result c.binary_search_by.ensures.bound
    (c.binary_search_by.ensures.position (stands msg rows c.args.sorted.now name c.requires) (always_returns_same _ _ _ (λ a r f call. search rules)))
