use Rattle.std.proofs.Common.{arith, subst, sym}
use Rattle.hsp_network.specs.Network.{Transport}
use Rattle.hsp_price_plan.specs.Pressing.{CanPress}
use Rattle.hsp_price_plan.proofs.GroupNetwork.{can_press, is_small}
use Rattle.hsp_price_plan.proofs.network.solve_groups.Goals as goal

pub solve-requires : goal.solve-requires
solve-requires c =
    rw c.group_network-network.ensures
    (is_small c.args.numbers.now c.args.groups.now c.requires.arcs (omega arith) c.requires.few_arcs
    c.requires.demands)

pub outcome_in_text-requires-clause-size : goal.outcome_in_text-requires-clause-size
outcome_in_text-requires-clause-size c =
    subst (λ (net : Transport). CanPress net) (sym c.group_network-network.ensures)
    (can_press c.args.numbers.now c.args.groups.now c.requires.arcs (omega arith))

pub returns-clause-none : goal.returns-clause-none
returns-clause-none c = (λ none. cc none, λ past. absurd (omega arith))
