use Rattle.std.proofs.Common.{length, refl, ◌∙◌, arith}
use Rattle.hsp_network.proofs.Arrival.{spread_begun, spread_later}
use Rattle.hsp_network.proofs.Searching.{arrived, closed}
use Rattle.hsp_network.proofs.Turns.{begun, turned, went, far_fits, all_done}
use Rattle.hsp_network.proofs.search.search.Goals as goal

pub loop-turn-init : goal.loop-turn-init
loop-turn-init g c =
    let covers = c.in_ok-begin.ensures.covers in (
      begun _ _ _ _ _ covers c.requires.root_in c.requires.away c.requires.excess c.in_ok-begin.ensures.ok,
      c.begin.ensures.count,
      spread_begun _ _ _ _ _ _ c.in_ok-begin.ensures.ok covers.distances_many,
    )

pub returns-in_default-clause-none : goal.returns-in_default-clause-none
returns-in_default-clause-none g c = λ _. closed _ _ _ _ _ _ c.loop-turn.invariant.0.search c.in_default.ensures.none

pub returns-then-node-eq0-clause-found : goal.returns-then-node-eq0-clause-found
returns-then-node-eq0-clause-found g c = λ _.
    arrived _ _ _ _ _ _ c.loop-turn.invariant.0.search _ (rw c.if-node-eq0.true at c.in-Some.ensures.least)

pub returns-then-node-eq0-clause-spread : goal.returns-then-node-eq0-clause-spread
returns-then-node-eq0-clause-spread g c = λ _. spread_later _ _ _ _ _ _ c.loop-turn.invariant.2 (omega arith)

pub expand-requires-clause-expanding : goal.expand-requires-clause-expanding
expand-requires-clause-expanding g c =
    turned _ _ _ _ _ _ c.loop-turn.invariant.0 _ refl refl _ c.in-Some.ensures.least c.in-Some.ensures.took
    c.if-node-eq0.false

pub expand-requires-clause-far : goal.expand-requires-clause-far
expand-requires-clause-far g c =
    far_fits _ _ _ _ _ _ c.loop-turn.invariant.0 c.requires.ready c.loop-turn.invariant.2 (omega arith) _ _
    c.in-Some.ensures.least

pub loop-turn-preserved : goal.loop-turn-preserved
loop-turn-preserved g c = (
  went _ _ _ _ _ c.in_ok-expand.ensures.ok,
  c.expand.ensures.count ∙ c.take_least.ensures.nodes ∙ c.loop-turn.invariant.1,
  c.in_ok-expand.ensures.spread c.loop-turn.invariant.2,
)

pub returns-clause-none : goal.returns-clause-none
returns-clause-none g c = λ _.
    closed _ _ _ _ _ _ c.loop-turn.invariant.0.search (all_done _ _ _ _ _ _ c.loop-turn.invariant.0 (omega arith))
