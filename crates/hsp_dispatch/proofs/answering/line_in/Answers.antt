use Rattle.std.proofs.Common.{rules}
use Rattle.hsp_dispatch.proofs.answering.line_in.Goals as goal

pub returns-in-Server : goal.returns-in-Server
returns-in-Server c = search rules
