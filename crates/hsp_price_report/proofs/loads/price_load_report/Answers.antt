use Rattle.std.proofs.Common.{◌≡◌, ◌∙◌, [], length, ap, slice_index, subst}
use Rattle.hsp_text.proofs.Lists.{three_pieces}
use Rattle.hsp_price_text.specs.Claim.{Best}
use Rattle.hsp_price_text.specs.declared.certificate.PriceCertificate.TheVariants.{Plan}
use Rattle.hsp_prices.specs.declared.verdict.PriceReason.TheVariants.{Shape}
use Rattle.hsp_price_check.specs.Classes.{service_of}
use Rattle.hsp_price_check.specs.Passed.{AreLoadsOf}
use Rattle.hsp_report.specs.LoadReport.{server_line}
use Rattle.hsp_price_report.specs.LoadReport.{line_by, lines_by, load_line, load_lines}
use Rattle.hsp_price_report.proofs.Exact.{load_exact}
use Rattle.hsp_price_report.proofs.Lines.{lines_same}
use Rattle.hsp_price_report.proofs.loads.price_load_report.Goals as goal

-- the loads are those of the plan that was judged
loads_of : (goal : Best) (own : Best) → ◌≡◌ (Plan goal) (Plan own) → own ≡ goal
loads_of goal own same = cc (same)

pub unwrap-loads-requires : goal.unwrap-loads-requires
unwrap-loads-requires c =
    let (costs, rows, is) = c.requires in
    c.loads.ensures.valid (service_of costs c.args.instance.now) rows c.args.plan.now is.passed is.valid

pub full_worth-requires-clause-servers : goal.full_worth-requires-clause-servers
full_worth-requires-clause-servers c = let (costs, rows, is) = c.requires in (is.valid Shape).0

pub full_worth-requires-clause-hosts : goal.full_worth-requires-clause-hosts
full_worth-requires-clause-hosts c = let (costs, rows, is) = c.requires in (is.valid Shape).1

pub push_loads-requires-clause-loads : goal.push_loads-requires-clause-loads
push_loads-requires-clause-loads c =
    let (costs, rows, is) = c.requires in
    let (own, same, are) =
    (rw c.unwrap-loads.ensures at c.loads.ensures.loads) (service_of costs c.args.instance.now)
    (Plan c.args.plan.now) rows is.passed in
    are.many

pub push_loads-requires-clause-prices : goal.push_loads-requires-clause-prices
push_loads-requires-clause-prices c =
    let (costs, rows, is) = c.requires in
    rw c.server_prices.ensures (is.valid Shape).0

pub returns : goal.returns
returns c = λ costs rows is.
    let it = c.args.instance.now in
    let at = service_of costs it in
    let plan = c.args.plan.now in
    let loads = c.unwrap-loads.result.now in
    let (own, same, are) = (rw c.unwrap-loads.ensures at c.loads.ensures.loads) at (Plan plan) rows is.passed in
    let one : own ≡ plan = loads_of plan own same in
    let own_loads : AreLoadsOf at plan rows loads = subst (λ (p : Best). AreLoadsOf at p rows loads) one are in
    let lines : lines_by it loads plan.server_prices ≡ load_lines it at plan rows =
    lines_same (line_by it loads plan.server_prices) (load_line it at plan rows) (length it.servers) (λ j l.
    ap (λ taken. server_line it j taken (slice_index plan.server_prices j))
    (own_loads.each j l ∙ load_exact at plan rows is.passed.service is.is is.valid j l)) in
    let bound = (c.plan_is_shown.ensures at rows plan is.passed.service is.is is.valid).1.bound in
    let worth = c.in_ok-worth.ensures.worth costs in
    three_pieces [] _ _ _ _ _ _ (rw c.new-text.ensures.items at c.in_ok-extend_from_slice.ensures.items)
    (rw (c.server_prices.ensures, lines) at c.in_ok-push_loads.ensures)
    (rw (c.from-cost.ensures, c.cost.ensures.cost, worth, ← bound) at c.in_ok-push_difference.ensures)
