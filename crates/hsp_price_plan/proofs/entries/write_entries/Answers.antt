use Rattle.std.proofs.Common.{arith}
use Rattle.hsp_price_plan.proofs.ArcEntries.{arcs_written}
use Rattle.hsp_price_plan.proofs.entries.write_entries.Goals as goal

pub returns : goal.returns
returns c =
    arcs_written c.args.arcs.now c.loop-i.entries (omega (arith, c.requires.many, c.loop-i.auto.entries))
    c.requires.servers (λ k less. c.loop-i.invariant k (omega (arith, less, c.loop-i-test.false)))
