use Rattle.std.proofs.Common.{rules}
use Rattle.base64_texts.proofs.Groups.{length-spelling}
use Rattle.base64_texts.proofs.base64_len.Goals as goal

pub returns : goal.returns
returns c = let e = length-spelling c.args.bytes.now in search rules
