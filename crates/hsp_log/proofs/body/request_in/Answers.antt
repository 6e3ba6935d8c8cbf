use Rattle.std.proofs.Common.{Ok}
use Rattle.hsp_log.proofs.Bodies.{fault_is_another}
use Rattle.hsp_log.proofs.body.request_in.Goals as goal

pub returns-in-Err : goal.returns-in-Err
returns-in-Err c =
    λ body means.
    fault_is_another c.in-Err.field-0 body.handle c.in-Err.ensures.memory (c.in-Err.ensures.only (Ok body) means)
