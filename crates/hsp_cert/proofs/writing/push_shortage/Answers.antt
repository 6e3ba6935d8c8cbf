use Rattle.std.proofs.Common.{ap}
use Rattle.hsp_cert.specs.Certificate.{Short}
use Rattle.hsp_cert.proofs.AppendedLines.{shortage_appended}
use Rattle.hsp_cert.proofs.writing.push_shortage.Goals as goal

pub returns : goal.returns
returns c =
    shortage_appended c.args.set.now c.args.out.now.items _ _ _ _ _ _ c.in_ok-push_line.ensures
    c.in_ok-push_line-2.ensures (rw (ap (λ (s : Short). s.demand) c.set.view_is) at c.in_ok-push_line-3.ensures)
    (rw (ap (λ (s : Short). s.capacity) c.set.view_is) at c.in_ok-push_line-4.ensures)
    (rw (c.deref.ensures.value, ap (λ (s : Short). s.rows) c.set.view_is) at c.in_ok-push_rows.ensures)
    c.in_ok-push_line-5.ensures
