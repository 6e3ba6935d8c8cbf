use Rattle.std.proofs.Common.{◌≡◌, ◌-◌, ◌<◌, length, slice_index, refl, ◌∙◌, arith}
use Rattle.hsp_network.specs.Residual.{ends}
use Rattle.hsp_network.proofs.Listing.{ends_many, seen_all, seen_next, seen_none}
use Rattle.hsp_network.proofs.Expansion.{may_offer, passed, reseen, way_offered}
use Rattle.hsp_network.proofs.Arrival.{priced_more}
use Rattle.hsp_network.proofs.Offers.{apart_here, widens}
use Rattle.hsp_network.proofs.expand.offer_ways.Goals as goal
use Rattle.hsp_network.proofs.expand.offer_ways.Goals.{then-capacity-gt0+in_ok-relax, else-capacity-gt0}

pub loop-last-init : goal.loop-last-init
loop-last-init g c =
    let last = c.chains-chains.ensures.last c.args.ways.at.node c.requires.expanding.node_in in
    let many = ends_many c.args.arcs.now c.args.ways.along in (
      reseen _ _ _ _ _ _ c.requires.expanding _
          (λ k d l wide here seen. seen_none c.args.arcs.now _ _ _ last k d (omega (arith, many)) here seen),
      refl,
      λ cost up down dear p. priced_more _ _ _ _ _ _ _ _ p (omega arith) (omega arith),
      last.within,
      last.own,
    )

pub relax-requires-clause-may : goal.relax-requires-clause-may
relax-requires-clause-may g c =
    let l : c.loop-last.last - 1 < length c.args.arcs.now.tails.now =
    omega (arith, c.loop-last.invariant.3, ends_many c.args.arcs.now c.args.ways.along) in
    let here : slice_index (ends c.args.arcs.now c.args.ways.along) (c.loop-last.last - 1) ≡ c.args.ways.at.node =
    c.loop-last.invariant.4 (omega arith) in
    may_offer _ _ _ _ _ _ c.loop-last.invariant.0 c.requires.ready _ _ l here
    (rw c.capacity.ensures at c.if-capacity-gt0.true) _ c.offer_over-offer.ensures c.requires.far c.requires.turns

pub loop-last-preserved : goal.loop-last-preserved
loop-last-preserved g c =
    let arcs = c.args.arcs.now in
    let in' : c.loop-last.last - 1 < length (ends c.args.arcs.now c.args.ways.along) =
    omega (arith, c.loop-last.invariant.3) in
    let l : c.loop-last.last - 1 < length c.args.arcs.now.tails.now = omega (arith, ends_many arcs c.args.ways.along) in
    let here : slice_index (ends c.args.arcs.now c.args.ways.along) (c.loop-last.last - 1) ≡ c.args.ways.at.node =
    c.loop-last.invariant.4 (omega arith) in
    let earlier = c.chains-chains.ensures.earlier (c.loop-last.last - 1) in' in
    elim c.if-capacity-gt0.branch [
      | then-capacity-gt0+in_ok-relax w ↦
          rw (w.frontier-is, w.tree-is) (
            way_offered _ _ _ _ _ _ c.loop-last.invariant.0 c.requires.ready _ _ l here
                (rw c.capacity.ensures at w.if-capacity-gt0.true) _ w.offer_over-offer.ensures c.requires.far
                _ (λ j e m q seen. seen_next arcs _ _ _ _ (omega arith) here earlier j e q seen) _ _
                w.in_ok-relax.ensures.ok,
            w.relax.ensures.count ∙ c.loop-last.invariant.1,
            λ cost up down dear p.
                widens _ _ _ _ _ _ c.loop-last.invariant.0 _ _ l here _ w.offer_over-offer.ensures _ _
                w.in_ok-relax.ensures.ok cost up down (dear (c.loop-last.last - 1) l here)
                (apart_here _ _ _ _ _ _ up down c.requires.expanding p) (c.loop-last.invariant.2 cost up down dear p),
            omega (arith, earlier.within),
            λ some. earlier.own some ∙ here,
          )
      | else-capacity-gt0 w ↦
          rw (w.frontier-is, w.tree-is) (
            passed _ _ _ _ _ _ c.loop-last.invariant.0 (c.loop-last.last - 1) c.args.ways.along _
                (λ j e m q seen. seen_next arcs _ _ _ _ (omega arith) here earlier j e q seen)
                (omega (arith, c.capacity.ensures, w.if-capacity-gt0.false)),
            c.loop-last.invariant.1,
            c.loop-last.invariant.2,
            omega (arith, earlier.within),
            λ some. earlier.own some ∙ here,
          )
    ]

pub returns-clause-ok : goal.returns-clause-ok
returns-clause-ok g c =
    reseen _ _ _ _ _ _ c.loop-last.invariant.0 _ (λ k d l wide here look. seen_all _ d k _ c.loop-last-test.false look)
