use Rattle.hsp_check.specs.Uses.{table}
use Rattle.hsp_check.proofs.plan_check.judge.Goals as goal

pub invariant_of-arc_flows-clause-arc_flows : goal.invariant_of-arc_flows-clause-arc_flows
invariant_of-arc_flows-clause-arc_flows c = rw c.uses.ensures c.requires.arc_flows

pub verdict-requires : goal.verdict-requires
verdict-requires c = rw c.uses.ensures c.requires.uses

pub returns : goal.returns
returns c =
    rw (c.cost.ensures, c.uses.ensures, c.row_prices.ensures, c.server_prices.ensures, c.host_prices.ensures) at
    c.verdict.ensures

pub invariant_of-arc_flows-clause-loads_are : goal.invariant_of-arc_flows-clause-loads_are
invariant_of-arc_flows-clause-loads_are c =
    rw c.uses.ensures (c.in_ok-loads.ensures (table c.args.plan.now.uses) c.requires.arc_flows)
