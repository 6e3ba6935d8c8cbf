use Rattle.std.proofs.Common.{rules}
use Rattle.hsp_check.proofs.sums.end_of.Goals as goal

pub returns-in-Server : goal.returns-in-Server
returns-in-Server c = search rules
