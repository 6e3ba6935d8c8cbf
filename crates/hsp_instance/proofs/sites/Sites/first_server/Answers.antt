use Rattle.std.proofs.Common.{arith}
use Rattle.hsp_instance.proofs.SiteSums.{next_first}
use Rattle.hsp_instance.proofs.sites.Sites.first_server.Goals as goal

pub loop-number-preserved : goal.loop-number-preserved
loop-number-preserved c =
    let next =
    next_first c.args.self.now c.loop-number.number c.server_count-first.result
    (rw c.self.view_is at c.self.invariant) c.server_count-first.ensures in
    record { first = omega (arith, next.0); within = omega (arith, next.0, next.1) }

pub overflow_add-first : goal.overflow_add-first
overflow_add-first c =
    let next =
    next_first c.args.self.now c.loop-number.number c.server_count-first.result
    (rw c.self.view_is at c.self.invariant) c.server_count-first.ensures in
    omega (arith, next.0, next.1)
