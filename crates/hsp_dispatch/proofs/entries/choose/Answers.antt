use Rattle.std.proofs.Common.{rules}
use Rattle.hsp_dispatch.proofs.entries.choose.Goals as goal

pub returns-in_err-row-clause-stays : goal.returns-in_err-row-clause-stays
returns-in_err-row-clause-stays c = search rules
