use Rattle.hsp_network.proofs.Pairing.{changes_set, lowered_in, pairs_pushed}
use Rattle.hsp_network.proofs.heap.HeapFrontierFrontier.lower.Goals as goal

pub invariant_of-self-2 : goal.invariant_of-self-2
invariant_of-self-2 c = record {
  ordered = c.in_ok-push.ensures.heap_order c.args.self.now.ordered;
  paired =
      pairs_pushed _ _ c.args.self.now.paired _ _ c.in_ok-push.ensures.permutation _
      (changes_set c.args.self.now.keys.items _ _ (lowered_in _ _ _ c.requires.held));
}
