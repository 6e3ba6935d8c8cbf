use Rattle.hsp_stream_cli.proofs.Lent.{placed_keep, until_keep}
use Rattle.hsp_stream_cli.proofs.placing.SourcesTalk.talk.Goals as goal

pub returns-in-Ok-clause-lent : goal.returns-in-Ok-clause-lent
returns-in-Ok-clause-lent g c = placed_keep _ _ _ _ c.in-Ok.ensures.whole

pub returns-in-Err-clause-lent : goal.returns-in-Err-clause-lent
returns-in-Err-clause-lent g c = until_keep _ _ _ _ c.in-Err.fault c.in-Err.ensures.stops
