use Rattle.hsp_stream_cli.proofs.Lent.{priced_keep}
use Rattle.hsp_stream_cli.proofs.answering.ByPricesTalk.talk.Goals as goal

pub returns-in-Ok-clause-lent : goal.returns-in-Ok-clause-lent
returns-in-Ok-clause-lent g c =
    priced_keep c.args.self.now.front c.args.self.now.priced.inputs c.deref.result.now _ c.in-Ok.ensures.answered

pub returns-in-Err-clause-lent : goal.returns-in-Err-clause-lent
returns-in-Err-clause-lent g c =
    priced_keep c.args.self.now.front c.args.self.now.priced.inputs c.deref.result.now _ c.in-Err.ensures.answered
