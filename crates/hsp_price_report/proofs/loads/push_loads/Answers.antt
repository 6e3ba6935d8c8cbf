use Rattle.std.proofs.Common.{refl}
use Rattle.hsp_price_report.specs.LoadReport.{line_by}
use Rattle.hsp_report.proofs.Pieces.{line_more}
use Rattle.hsp_price_report.proofs.loads.push_loads.Goals as goal

pub loop-server-preserved : goal.loop-server-preserved
loop-server-preserved c =
    line_more (line_by c.args.instance.now c.args.loads.now c.args.prices.now) c.args.out.now.items
    c.loop-server.out.items _ _ c.loop-server.server c.loop-server.invariant refl c.in_ok-push_server.ensures
