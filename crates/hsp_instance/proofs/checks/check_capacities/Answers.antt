use Rattle.std.proofs.Common.{◌∙◌}
use Rattle.hsp_tables.specs.Rows.{capacity_shown}
use Rattle.hsp_instance.proofs.TableChecks.{capacity_passed}
use Rattle.hsp_instance.proofs.checks.check_capacities.Goals as goal

pub loop-number-preserved : goal.loop-number-preserved
loop-number-preserved c =
    capacity_passed c.args.sites.now c.loop-number.number c.args.capacities.now (capacity_shown c.row-row.result) _ _
    c.row-row.ensures c.site_named.ensures c.in_ok-check_capacity.ensures ∙ c.loop-number.invariant
