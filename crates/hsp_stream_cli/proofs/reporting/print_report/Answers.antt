use Rattle.std.proofs.Common.{inl, inr, refl}
use Rattle.hsp_stream_cli.proofs.reporting.print_report.Goals as goal

pub returns-in-Ok-clause-prints : goal.returns-in-Ok-clause-prints
returns-in-Ok-clause-prints g c =
    inl (
      c.in-Ok.report,
      rw (← c.deref.ensures.value) c.in-Ok.ensures.report,
      c.print_shown.ensures.prints,
    )

pub returns-in-Err-clause-prints : goal.returns-in-Err-clause-prints
returns-in-Err-clause-prints g c =
    inr (c.in-Err.fault, rw (← c.deref.ensures.value) c.in-Err.ensures.fault, refl, refl)
