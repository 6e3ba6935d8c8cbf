use Rattle.std.proofs.Common.{◌≡◌, ◌∙◌, List, ap, sym, arith}
use Rattle.std.specs.List.{list_all}
use Rattle.hsp_transport.specs.Lists.{flag_at}
use Rattle.hsp_transport.proofs.Rowwise.{when}
use Rattle.hsp_instance.specs.declared.arc.Arc.{Arc}
use Rattle.hsp_prices.specs.Groups.{Group}
use Rattle.hsp_price_plan.specs.Shortage.{is_caught}
use Rattle.hsp_price_plan.proofs.CaughtDemand.{caught_more, caught_room}
use Rattle.hsp_price_plan.proofs.shortage.caught_demand.Goals as goal
use Rattle.hsp_price_plan.proofs.shortage.caught_demand.Goals.{then-arcs_stay_within, else-arcs_stay_within}

pub overflow_add-sum : goal.overflow_add-sum
overflow_add-sum c =
    let demand : c.group.inside.demand ≡ c.group-item.result.demand =
    ap (λ (g : Group). g.demand) c.group.view_is in
    let room =
    caught_room c.args.reached.now c.args.groups.now c.loop-group.group-index c.group-item.result
    c.loop-group-test.true c.group-item.is in
    omega (arith, demand, room, c.loop-group.invariant, c.requires.demands)

pub loop-group-preserved : goal.loop-group-preserved
loop-group-preserved c =
    let reached = c.args.reached.now in
    let group = c.group-item.result in
    let demand : c.group.inside.demand ≡ group.demand = ap (λ (g : Group). g.demand) c.group.view_is in
    let caught : c.arcs_stay_within.result ≡ is_caught reached group =
    c.arcs_stay_within.ensures
    ∙ ap (λ (arcs : List Arc). list_all (λ (arc : Arc). flag_at reached arc.server) arcs)
    (c.deref.ensures.value ∙ ap (λ (g : Group). g.arcs) c.group.view_is) in
    let more =
    caught_more reached c.args.groups.now c.loop-group.group-index group c.loop-group-test.true c.group-item.is in
    elim c.if-arcs_stay_within.branch [
      | then-arcs_stay_within w ↦
          omega (
            arith,
            w.sum-is,
            c.loop-group.invariant,
            demand,
            more,
            ap (λ t. when t group.demand) (sym caught ∙ w.if-arcs_stay_within.true),
          )
      | else-arcs_stay_within w ↦
          omega (
            arith,
            w.sum-is,
            c.loop-group.invariant,
            more,
            ap (λ t. when t group.demand) (sym caught ∙ w.if-arcs_stay_within.false),
          )
    ]
