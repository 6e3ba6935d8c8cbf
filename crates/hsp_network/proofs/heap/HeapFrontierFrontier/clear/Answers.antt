use Rattle.hsp_network.proofs.Pairing.{all_forgotten, none_paired}
use Rattle.hsp_network.proofs.heap.HeapFrontierFrontier.clear.Goals as goal

pub invariant_of-self : goal.invariant_of-self
invariant_of-self c = record {
  ordered = c.clear.ensures.heap_order;
  paired =
      none_paired _ _
      (all_forgotten _ _ _ c.args.self.now.paired c.forget_keys.ensures.kept
      (rw c.as_slice.ensures.value at c.forget_keys.ensures.gone));
}

pub returns-clause-empty : goal.returns-clause-empty
returns-clause-empty c =
    all_forgotten _ _ _ c.args.self.now.paired c.forget_keys.ensures.kept
    (rw c.as_slice.ensures.value at c.forget_keys.ensures.gone)
