use Rattle.wire.proofs.RowKinds.{first_row_opens, no_row_is_blank}
use Rattle.wire.proofs.TellApart.{rows_tell_messages}
use Rattle.wire.proofs.tree.rows_tell_messages.Goals as goal

pub returns : goal.returns
returns c = record { told = rows_tell_messages; opened = first_row_opens; filled = no_row_is_blank }
