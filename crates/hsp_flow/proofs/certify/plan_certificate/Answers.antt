use Rattle.std.proofs.Common.{arith}
use Rattle.hsp_flow.proofs.Claiming.{best_is, best_low, best_valid, by_arcs, costs_few, costs_cheap, total_small}
use Rattle.hsp_flow.proofs.certify.plan_certificate.Goals as goal

pub total_of-cost-requires-clause-few : goal.total_of-cost-requires-clause-few
total_of-cost-requires-clause-few c = costs_few c.args.instance.now c.requires.within c.args.costs.now c.requires.costs

pub total_of-cost-requires-clause-cheap : goal.total_of-cost-requires-clause-cheap
total_of-cost-requires-clause-cheap c =
    costs_cheap c.args.instance.now c.requires.within c.args.costs.now c.requires.costs

pub overflow_cast-cost : goal.overflow_cast-cost
overflow_cast-cost c =
    let low =
    total_small c.args.instance.now c.requires.within c.args.costs.now c.requires.costs c.args.plan c.requires.met
    c.total_of-cost.result (rw c.deref-2.ensures.value at c.total_of-cost.ensures) in
    omega (arith, low)

pub certificate_of-requires : goal.certificate_of-requires
certificate_of-requires c =
    best_is c.args.instance.now c.requires.within c.args.plan c.requires.met c.total_of-cost.result
    (by_arcs c.args.instance.now c.requires.within c.args.costs.now c.requires.costs c.args.plan c.requires.met
    c.total_of-cost.result (rw c.deref-2.ensures.value at c.total_of-cost.ensures))
    c.in_ok-uses.uses.items (rw c.deref.ensures.value at c.in_ok-uses.ensures)

pub returns-clause-valid : goal.returns-clause-valid
returns-clause-valid c =
    rw c.certificate_of.ensures
    (best_valid c.args.instance.now c.requires.within c.args.plan c.requires.met c.total_of-cost.result
    (by_arcs c.args.instance.now c.requires.within c.args.costs.now c.requires.costs c.args.plan c.requires.met
    c.total_of-cost.result (rw c.deref-2.ensures.value at c.total_of-cost.ensures))
    c.in_ok-uses.uses.items (rw c.deref.ensures.value at c.in_ok-uses.ensures))

pub returns-clause-low : goal.returns-clause-low
returns-clause-low c =
    rw c.certificate_of.ensures
    (best_low c.args.instance.now c.requires.within c.args.plan c.requires.met c.total_of-cost.result
    (by_arcs c.args.instance.now c.requires.within c.args.costs.now c.requires.costs c.args.plan c.requires.met
    c.total_of-cost.result (rw c.deref-2.ensures.value at c.total_of-cost.ensures))
    c.in_ok-uses.uses.items (rw c.deref.ensures.value at c.in_ok-uses.ensures))
