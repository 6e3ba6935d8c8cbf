use Rattle.std.proofs.Common.{◌∙◌, sym}
use Rattle.hsp_dispatch.proofs.Taking.{row_handle}
use Rattle.hsp_dispatch.proofs.answering.row_in.Goals as goal

pub returns-in-Some-clause-handle : goal.returns-in-Some-clause-handle
returns-in-Some-clause-handle c =
    row_handle c.args.instance.now _ _ c.in-Some.row c.requires (sym c.find_row.ensures ∙ c.in-Some.is)
