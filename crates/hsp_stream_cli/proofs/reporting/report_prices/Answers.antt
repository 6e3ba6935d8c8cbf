use Rattle.std.proofs.Common.{inr}
use Rattle.hsp_stream_cli.proofs.FailedReads.{prints_weaker}
use Rattle.hsp_stream_cli.proofs.reporting.report_prices.Goals as goal

pub returns-clause-reports : goal.returns-clause-reports
returns-clause-reports g c =
    inr (
      c.in_ok-priced.priced,
      _,
      c.in_ok-priced.ensures.held,
      c.in_ok-log.ensures.held,
      prints_weaker _ _ _ _ _ _ c.in_ok-log.ensures.reads c.print_report.ensures.prints,
    )
