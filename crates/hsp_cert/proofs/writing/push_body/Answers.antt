use Rattle.std.proofs.Common.{◌++◌, ◌∙◌, ap}
use Rattle.hsp_cert.specs.Certificate.{Best}
use Rattle.hsp_cert.specs.Text.{body_items}
use Rattle.hsp_cert.proofs.AppendedLines.{spelling, body_appended}
use Rattle.hsp_cert.proofs.writing.push_body.Goals as goal

pub returns : goal.returns
returns c =
    let i = c.plan.inside in
    let b : Best =
    record {
      cost = i.cost;
      uses = i.uses.items;
      row_prices = i.row_prices.items;
      server_prices = i.server_prices.items;
      host_prices = i.host_prices.items;
    } in
    body_appended b c.args.out.now.items _ _ _ _ (rw c.deref.ensures.value at c.in_ok-push_uses.ensures)
    (rw c.deref-2.ensures.value at c.in_ok-push_prices.ensures)
    (rw c.deref-3.ensures.value at c.in_ok-push_prices-2.ensures)
    (rw c.deref-4.ensures.value at c.in_ok-push_prices-3.ensures)
    ∙ ap (λ (p : Best). c.args.out.now.items ++ spelling (body_items p)) c.plan.view_is
