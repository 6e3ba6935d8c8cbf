use Rattle.std.proofs.Common.{Ok}
use Rattle.hsp_cli.proofs.dispatch.dispatch_entries.Goals as goal

pub returns-in-Ok-clause-answers : goal.returns-in-Ok-clause-answers
returns-in-Ok-clause-answers g c =
    let answered = rw c.deref.ensures.value at c.in-Ok.ensures.answers in
    let written = g.O.Write.contents c.dispatch_run.new.writer in
    (written, Ok c.in-Ok.sums, answered, c.complete.ensures.completes)
