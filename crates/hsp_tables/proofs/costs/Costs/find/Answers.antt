use Rattle.std.proofs.Common.{◌∙◌}
use Rattle.hsp_tables.proofs.Lookups.{cost_found}
use Rattle.hsp_tables.proofs.costs.Costs.find.Goals as goal

pub returns-in_err-cost : goal.returns-in_err-cost
returns-in_err-cost c =
    rw (c.from_residual.ensures, ← c.self.view_is)
    (c.in_err-cost.ensures.value ∙ cost_found c.args.region.now c.args.site.now c.self.inside.rows.entries)

pub returns : goal.returns
returns c =
    rw (← c.self.view_is)
    (c.in_ok-cost.ensures.value ∙ cost_found c.args.region.now c.args.site.now c.self.inside.rows.entries)
