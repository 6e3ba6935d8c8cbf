use Rattle.std.proofs.Common.{◌≡◌, ◌-◌, ◌<◌, inl, inr, length, slice_index, ◌∙◌, arith}
use Rattle.std.proofs.lemmas.Bool.{cases_eq, cases_lt}
use Rattle.hsp_network.proofs.Listing.{next_in_chain}
use Rattle.hsp_network.proofs.initial_potentials.least_cost.Goals as goal

pub loop-last-preserved : goal.loop-last-preserved
loop-last-preserved c =
    let past = c.loop-last.invariant in
    let l : c.loop-last.last - 1 < length c.args.arcs.now.tails.now = omega (arith, past.2) in
    let here : slice_index c.args.arcs.now.tails.now (c.loop-last.last - 1) ≡ c.args.node =
    past.3 c.loop-last-test.true in
    let earlier = c.chains-leaving.ensures.earlier (c.loop-last.last - 1) l in (
      λ k behind in' own. elim (cases_eq k (c.loop-last.last - 1)) [
        | inl e ↦ rw e (omega (arith, c.min-least.ensures))
        | inr ne ↦
            omega (
              arith,
              c.min-least.ensures,
              past.0 k (omega (arith, next_in_chain _ _ _ _ k here earlier behind own)) in' own,
            )
      ],
      elim (cases_lt c.loop-last.least (slice_index c.args.arcs.now.costs.now (c.loop-last.last - 1))) [
        | inl less ↦ (past.1.0, past.1.1, past.1.2, omega (arith, past.1.3, c.min-least.ensures))
        | inr more ↦ (c.loop-last.last - 1, l, here, omega (arith, c.min-least.ensures))
      ],
      omega (arith, earlier.within),
      λ some. earlier.own some ∙ here,
    )
