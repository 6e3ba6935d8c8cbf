use Rattle.std.proofs.Common.{◌≡◌, None, Some, true, slice_index_or, sym, arith}
use Rattle.hsp_network.proofs.Pairing.{pairs_popped, none_held, held_in, still_held, first_is_least}
use Rattle.hsp_network.specs.Frontier.{IsLeast}
use Rattle.hsp_network.proofs.heap.HeapFrontierFrontier.take_least.Goals as goal

pub returns-then-is_present-clause-least : goal.returns-then-is_present-clause-least
returns-then-is_present-clause-least c =
    let least : IsLeast (λ v. slice_index_or c.loop-key.self.keys.items v None) c.in-Some.field-0.0.1
    c.in-Some.field-0.0.0 = record {
      there = rw c.deref.ensures.value at (c.is_present.ensures.0 c.if-is_present.true);
      none_below =
          λ v d h.
          first_is_least _ _ (c.in-Some.ensures.heap_order c.loop-key.self.ordered).1 v d
          (c.loop-key.self.paired v d h);
    } in
    rw c.loop-key.invariant.0 at least

pub returns-clause-none : goal.returns-clause-none
returns-clause-none c =
    rw (← c.loop-key.invariant.0)
    (none_held _ _ c.loop-key.self.paired (omega (arith, c.in_default.ensures.none, c.loop-key.self.pairs.data.ok.0)))

pub invariant_of-self : goal.invariant_of-self
invariant_of-self c =
    let present : slice_index_or c.loop-key.self.keys.items c.in-Some.field-0.0.1 None ≡ Some c.in-Some.field-0.0.0 =
    rw c.deref.ensures.value at (c.is_present.ensures.0 c.if-is_present.true) in
    let l = held_in c.loop-key.self.keys.items _ _ present in
    record {
      ordered = (c.in-Some.ensures.heap_order c.loop-key.self.ordered).0;
      paired = pairs_popped _ _ c.loop-key.self.paired _ _ c.in-Some.ensures.permutation _ (λ v key h.
          let s = still_held c.loop-key.self.keys.items _ v key l h in (s.0, λ k n. s.1 (sym n)));
    }

pub invariant_of-self-else-is_present : goal.invariant_of-self-else-is_present
invariant_of-self-else-is_present c = record {
  ordered = (c.in-Some.ensures.heap_order c.loop-key.self.ordered).0;
  paired = pairs_popped _ _ c.loop-key.self.paired _ _ c.in-Some.ensures.permutation _ (λ v key h. (
    h,
    λ k n.
        let present : slice_index_or c.loop-key.self.keys.items c.in-Some.field-0.0.1 None
        ≡ Some c.in-Some.field-0.0.0 =
        rw (n, k) h in
        let yes : c.is_present.result ≡ true = c.is_present.ensures.1 (rw (← c.deref.ensures.value) at present) in
        let no = c.if-is_present.false in
        absurd cc,
  ));
}
