use Rattle.std.proofs.Common.{inr}
use Rattle.hsp_cli.specs.Dispatching.{opened_log}
use Rattle.hsp_cli.proofs.commands.carry_out.Goals as goal

pub returns-in-LocateSites-clause-carries_out : goal.returns-in-LocateSites-clause-carries_out
returns-in-LocateSites-clause-carries_out g c =
    rw c.in-LocateSites.is
    (c.locate_sites.result, c.locate_sites.ensures, c.print-in-LocateSites.ensures.prints)

pub returns-in-Check-clause-carries_out : goal.returns-in-Check-clause-carries_out
returns-in-Check-clause-carries_out g c =
    rw c.in-Check.is (c.check.result, c.check.ensures, c.print-in-Check.ensures.prints)

pub returns-in-Report-clause-carries_out : goal.returns-in-Report-clause-carries_out
returns-in-Report-clause-carries_out g c =
    rw c.in-Report.is (c.report.result, c.report.ensures, c.print-in-Report.ensures.prints)

pub returns-in_ok-opened-in-Dispatch-clause-carries_out : goal.returns-in_ok-opened-in-Dispatch-clause-carries_out
returns-in_ok-opened-in-Dispatch-clause-carries_out g c =
    let it = c.in_ok-opened-in-Dispatch.opened in
    rw c.in-Dispatch.is
    (inr (
      opened_log it.inputs it.certificate.items (g.S.File.Read.remaining it.log),
      c.in_ok-opened-in-Dispatch.ensures.opened,
      c.dispatch.ensures.dispatches,
    ))
