use Rattle.std.proofs.Common.{◌-◌, ◌∙◌, ap, arith, drop}
use Rattle.hsp_price_dispatch.specs.Choosing.{can_give, fuller, place_at, places_from}
use Rattle.hsp_price_dispatch.proofs.Places.{best_here, best_later, none_behind, place_before}
use Rattle.hsp_price_dispatch.proofs.choosing.fullest.Goals as goal

pub places-init : goal.places-init
places-init c = record {
  inside = omega arith;
  best = none_behind c.args.holding.now (drop c.args.first c.args.holding.now.cells) c.args.first c.args.arcs.now;
}

pub places-preserved-then-can_give : goal.places-preserved-then-can_give
places-preserved-then-can_give c =
    let own = c.args.holding.now in
    let is = c.place_at-place.ensures
    ∙ ap (λ cells. place_at cells c.args.first c.args.arcs.now (c.places.at - 1)) c.cells-cells.ensures in
    record {
      inside = omega (arith, c.places.invariant.inside);
      best =
          best_here own (drop (c.places.at - 1) (places_from c.args.first c.args.arcs.now (drop c.args.first
          own.cells)))
          (drop c.places.at (places_from c.args.first c.args.arcs.now (drop c.args.first own.cells)))
          (place_at own.cells c.args.first c.args.arcs.now (c.places.at - 1)) c.fuller.result c.can_give.result
          c.places.best
          (place_before own.cells c.args.first c.args.arcs.now c.places.at c.places-test.true c.places.invariant.inside
          c.requires.cells)
          (c.can_give.ensures ∙ ap (can_give own) is) c.if-can_give.true c.places.invariant.best
          (c.fuller.ensures ∙ ap (λ place. fuller place c.places.best) is);
    }

pub places-preserved : goal.places-preserved
places-preserved c =
    let own = c.args.holding.now in
    let is = c.place_at-place.ensures
    ∙ ap (λ cells. place_at cells c.args.first c.args.arcs.now (c.places.at - 1)) c.cells-cells.ensures in
    record {
      inside = omega (arith, c.places.invariant.inside);
      best =
          best_later own (drop (c.places.at - 1) (places_from c.args.first c.args.arcs.now (drop c.args.first
          own.cells)))
          (drop c.places.at (places_from c.args.first c.args.arcs.now (drop c.args.first own.cells)))
          (place_at own.cells c.args.first c.args.arcs.now (c.places.at - 1)) c.can_give.result c.places.best
          (place_before own.cells c.args.first c.args.arcs.now c.places.at c.places-test.true c.places.invariant.inside
          c.requires.cells)
          (c.can_give.ensures ∙ ap (can_give own) is) c.if-can_give.false c.places.invariant.best;
    }
