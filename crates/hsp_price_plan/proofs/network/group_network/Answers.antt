use Rattle.hsp_price_plan.proofs.GroupNetwork.{is_network}
use Rattle.hsp_price_plan.proofs.network.group_network.Goals as goal

pub invariant_of-result : goal.invariant_of-result
invariant_of-result c = record {
  ends =
      rw (
        c.deref.ensures.value,
        c.deref-2.ensures.value,
        c.deref-3.ensures.value,
        c.deref-4.ensures.value,
        c.deref-5.ensures.value,
        c.deref-6.ensures.value,
        c.deref-7.ensures.value,
        c.requires.columns.demands,
        c.requires.columns.arcs.sources,
        c.requires.columns.arcs.servers,
        c.requires.columns.arcs.costs,
      ) (is_network c.args.numbers.now c.args.groups.now c.requires.arcs);
}
