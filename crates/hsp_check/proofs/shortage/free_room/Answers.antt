use Rattle.std.proofs.Common.{rules}
use Rattle.hsp_check.proofs.shortage.free_room.Goals as goal

pub loop-server-preserved : goal.loop-server-preserved
loop-server-preserved c = search rules
