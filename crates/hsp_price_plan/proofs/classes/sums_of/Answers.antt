use Rattle.std.proofs.Common.{◌≡◌, ◌∙◌, List, ℕ, take, ap, sym, subst, arith, length}
use Rattle.hsp_prices.specs.Least.{least_arcs}
use Rattle.hsp_prices.specs.Groups.{Group}
use Rattle.hsp_price_check.specs.Extras.{pay_by}
use Rattle.hsp_price_plan.specs.ClassSums.{AreSums, sent_of}
use Rattle.hsp_price_plan.proofs.SentFlows.{next_begin, next_room, next_sent}
use Rattle.hsp_price_plan.proofs.classes.sums_of.Goals as goal

pub add_least-requires : goal.add_least-requires
add_least-requires c =
    let pay = pay_by c.args.extras.now in
    let groups = c.args.groups.now in
    let k = c.loop-group.group-index in
    let many : c.len.result ≡ length c.group-item.result.arcs =
    c.len.ensures ∙ c.group.inside.arcs.ok.0 ∙ ap (λ (g : Group). length g.arcs) c.group.view_is in
    let room =
    next_room groups k c.group-item.result c.args.flows.now c.loop-group.begin c.len.result
    c.loop-group-test.true c.group-item.is c.loop-group.invariant.begin many in
    record {
      pay = pay;
      sent = sent_of (take k groups) c.args.flows.now;
      are_least =
          c.deref-in-loop-group.ensures.value ∙ c.in_ok-fill_least.ensures
          ∙ ap (least_arcs pay) (c.deref.ensures.value ∙ ap (λ (g : Group). g.arcs) c.group.view_is);
      sums = c.loop-group.invariant.sums;
      room = omega (arith, room, c.requires.room);
    }

pub loop-group-preserved : goal.loop-group-preserved
loop-group-preserved c =
    let pay = pay_by c.args.extras.now in
    let groups = c.args.groups.now in
    let k = c.loop-group.group-index in
    let flows = c.args.flows.now in
    let many : c.len.result ≡ length c.group-item.result.arcs =
    c.len.ensures ∙ c.group.inside.arcs.ok.0 ∙ ap (λ (g : Group). length g.arcs) c.group.view_is in
    let next =
    next_sent groups k c.group-item.result flows c.loop-group.begin c.len.result c.loop-group-test.true
    c.group-item.is c.loop-group.invariant.begin many in
    record {
      begin =
          next_begin groups k c.group-item.result flows c.loop-group.begin c.len.result c.loop-group-test.true
          c.group-item.is c.loop-group.invariant.begin many;
      sums =
          subst (λ (sent : List (Group × List ℕ)). AreSums pay sent c.add_least.new.sums.entries) (sym next)
          (c.in_ok-add_least.ensures pay (sent_of (take k groups) flows)
          (c.deref-in-loop-group.ensures.value ∙ c.in_ok-fill_least.ensures
          ∙ ap (least_arcs pay) (c.deref.ensures.value ∙ ap (λ (g : Group). g.arcs) c.group.view_is))
          c.loop-group.invariant.sums);
    }
