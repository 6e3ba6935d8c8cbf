use Rattle.std.proofs.Common.{◌∙◌, ◌++◌, ◌∷◌, [], ℕ, ap}
use Rattle.hsp_prices.specs.Groups.{Group}
use Rattle.hsp_price_plan.proofs.ColumnSteps.{arcs_more, demands_more}
use Rattle.hsp_price_plan.proofs.columns.columns_of.Goals as goal

pub loop-number-preserved : goal.loop-number-preserved
loop-number-preserved c =
    let groups = c.args.groups.now in
    let k = c.loop-number.number in
    let d = c.index-groups-number.result in
    let group = c.group.view_is ∙ c.index-groups-number.is in
    let arcs = c.deref.ensures.value ∙ ap (λ (g : Group). g.arcs) group in
    let inside = c.loop-number-test.true in
    record {
      demands =
          demands_more groups k d inside c.loop-number.demands.items c.push.new.self.items
          c.loop-number.invariant.demands
          (c.in_ok-push.ensures.items
          ∙ ap (λ (x : ℕ). c.loop-number.demands.items ++ x ∷ []) (ap (λ (g : Group). g.demand) group));
      arcs =
          arcs_more groups k d inside c.loop-number.arcs c.push_arcs.new.self c.loop-number.invariant.arcs
          (rw arcs at c.in_ok-push_arcs.ensures);
    }
