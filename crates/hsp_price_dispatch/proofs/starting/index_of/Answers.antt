use Rattle.hsp_price_check.proofs.Starting.{classes_few, host_prices_low, server_prices_low}
use Rattle.hsp_price_dispatch.proofs.Begun.{classes_few_cells, classes_most}
use Rattle.hsp_price_dispatch.proofs.starting.index_of.Goals as goal

pub prices_with_hosts-requires-clause-low : goal.prices_with_hosts-requires-clause-low
prices_with_hosts-requires-clause-low c =
    rw c.server_prices.ensures (server_prices_low c.args.plan.now c.cost-cost.ensures.within)

pub prices_with_hosts-requires-clause-low_hosts : goal.prices_with_hosts-requires-clause-low_hosts
prices_with_hosts-requires-clause-low_hosts c =
    rw c.host_prices.ensures (host_prices_low c.args.plan.now c.cost-cost.ensures.within)

pub class_numbers-requires : goal.class_numbers-requires
class_numbers-requires c = rw c.classes-classes.ensures (classes_few c.args.plan.now c.cost-cost.ensures.within)

pub first_cells-requires-clause-few : goal.first_cells-requires-clause-few
first_cells-requires-clause-few c =
    rw c.classes-classes.ensures (classes_most c.args.plan.now c.cost-cost.ensures.within)

pub first_cells-requires-clause-fit : goal.first_cells-requires-clause-fit
first_cells-requires-clause-fit c =
    rw c.classes-classes.ensures (classes_few_cells c.args.plan.now c.cost-cost.ensures.within)
