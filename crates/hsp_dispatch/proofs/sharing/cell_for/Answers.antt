use Rattle.std.proofs.Common.{rules}
use Rattle.hsp_dispatch.proofs.sharing.cell_for.Goals as goal

pub returns : goal.returns
returns c = search rules
