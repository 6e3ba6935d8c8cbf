use Rattle.std.proofs.Common.{inr}
use Rattle.hsp_stream_cli.proofs.FailedReads.{prints_weaker}
use Rattle.hsp_stream_cli.proofs.checking.check_prices.Goals as goal

pub returns-clause-checks : goal.returns-clause-checks
returns-clause-checks g c =
    inr (
      c.in_ok-priced.priced,
      _,
      c.in_ok-priced.ensures.held,
      c.in_ok-log.ensures.held,
      prints_weaker _ _ _ _ _ _ c.in_ok-log.ensures.reads c.print_verdict.ensures.prints,
    )
