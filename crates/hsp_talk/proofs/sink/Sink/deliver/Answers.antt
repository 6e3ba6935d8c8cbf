use Rattle.hsp_talk.proofs.Writing.{put_whole}
use Rattle.hsp_talk.proofs.sink.Sink.deliver.Goals as goal

pub returns-clause-puts : goal.returns-clause-puts
returns-clause-puts g c =
    put_whole _ _ _ _ _ _ c.in_ok-write_text.ensures c.hand_on.ensures.kept c.hand_on.ensures.fails
