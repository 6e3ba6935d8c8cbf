use Rattle.hsp_price_report.proofs.regions.push_total.Goals as goal

pub total_demand-requires : goal.total_demand-requires
total_demand-requires c = let (at, rows, is) = c.requires in (at, c.args.plan.now, rows, is)
