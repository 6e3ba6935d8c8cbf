use Rattle.std.proofs.Common.{◌∙◌}
use Rattle.hsp_tables.specs.Rows.{cost_shown}
use Rattle.hsp_instance.proofs.TableChecks.{cost_passed}
use Rattle.hsp_instance.proofs.checks.check_costs.Goals as goal

pub loop-row-preserved : goal.loop-row-preserved
loop-row-preserved c =
    cost_passed c.args.sites.now c.loop-row.row c.args.costs.now (cost_shown c.row.result) _ c.row.ensures
    c.in-Some.ensures ∙ c.loop-row.invariant
