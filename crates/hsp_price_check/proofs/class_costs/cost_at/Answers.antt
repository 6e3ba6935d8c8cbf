use Rattle.std.proofs.Common.{◌∙◌, ap}
use Rattle.std.specs.Option.{unwrap_or}
use Rattle.hsp_price_check.specs.Classes.{service_of}
use Rattle.hsp_price_check.proofs.ClassSums.{cost_is, cost_low}
use Rattle.hsp_price_check.proofs.class_costs.cost_at.Goals as goal

pub returns-clause-cost : goal.returns-clause-cost
returns-clause-cost c =
    c.unwrap_or.ensures ∙ ap (λ o. unwrap_or o 0) c.find.ensures
    ∙ cost_is (service_of c.args.costs.now c.args.instance.now) c.args.region.now c.args.server c.server-site.result.0
    c.name.result.now c.server-site.ensures.site (rw (← c.sites.ensures.sites) c.name.ensures)

pub returns-clause-low : goal.returns-clause-low
returns-clause-low c =
    rw (c.unwrap_or.ensures, c.find.ensures)
    (cost_low c.args.costs.now c.args.region.now c.name.result.now c.len-rows.ensures.rows)
