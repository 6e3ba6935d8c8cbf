use Rattle.std.proofs.Common.{Err}
use Rattle.hsp_talk.proofs.Writing.{put_whole}
use Rattle.hsp_cli.proofs.output.AnyOutput.put.Goals as goal

pub returns-in-Err-clause-puts : goal.returns-in-Err-clause-puts
returns-in-Err-clause-puts g c =
    put_whole {E = Unit {0}} (Unit {0}) _ _ _ _ (Err tt) c.in_ok-put_all.ensures.whole c.hand_on.ensures.kept tt
