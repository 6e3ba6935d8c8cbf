use Rattle.std.proofs.Common.{◌≡◌, ℕ, ◌+◌, ◌-◌, ◌<◌, false, length, nat_lt, slice_index, slice_index_or, ap, sym, ◌∙◌}
use Rattle.std.proofs.Common.{arith, lt-ltb, ltb-true}
use Rattle.hsp_network.specs.Layout.{first_of}
use Rattle.hsp_network.specs.Problem.{problem_of}
use Rattle.hsp_network.proofs.ShortSources.{is_short}
use Rattle.hsp_network.proofs.answer.short_set.Goals as goal

pub returns : goal.returns
returns c =
    let arcs = c.requires.arcs_of.lists in
    let nodes = arcs.supplies.many in
    let done : c.loop-node.node ≡ length c.args.tree.now.distance.now =
    omega (
      arith,
      c.loop-node-test.false,
      c.loop-node.auto.node-end,
      c.requires.stuck.stuck.many,
      c.requires.arcs_of.first,
    ) in
    let set-is : (i : ℕ) → i < length c.args.network.now.demands.now →
    slice_index_or c.loop-node.reached.items i false
    ≡ nat_lt (slice_index c.args.tree.now.distance.now (first_of (problem_of c.args.network.now) + i))
    18446744073709551615 = λ i l.
    c.loop-node.invariant.1 i (omega (arith, c.requires.stuck.stuck.many, c.requires.arcs_of.first))
    ∙ ap (λ n. nat_lt (slice_index c.args.tree.now.distance.now (n + i)) 18446744073709551615)
    c.requires.arcs_of.first in
    record {
      many = omega (arith, c.loop-node.invariant.0, c.requires.stuck.stuck.many, c.requires.arcs_of.first);
      short =
          is_short (problem_of c.args.network.now) c.args.network.now.ends c.requires.small _ _ arcs
          c.requires.ready.sound
          _ _ c.requires.stuck.stuck.closed (λ i. slice_index_or c.loop-node.reached.items i false)
          (λ i l inside. ltb-true _ _ (sym (set-is i l) ∙ inside)) (λ i l near. set-is i l ∙ lt-ltb _ _ near)
          (c.requires.stuck.root - c.args.arcs.now.first)
          (omega (arith, c.requires.stuck.inside, c.requires.arcs_of.first, c.requires.stuck.from))
          (omega (arith, c.requires.stuck.from, c.requires.arcs_of.first)) c.requires.stuck.stuck.excess;
    }
