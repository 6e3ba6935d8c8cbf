use Rattle.hsp_report.proofs.RegionSums.{seen_more}
use Rattle.hsp_report.proofs.naming.regions_of.Goals as goal

pub loop-row-preserved : goal.loop-row-preserved
loop-row-preserved c =
    seen_more c.args.instance.now.rows c.loop-row.row _ _ _ c.row.ensures c.loop-row.invariant c.in_ok-see.ensures
