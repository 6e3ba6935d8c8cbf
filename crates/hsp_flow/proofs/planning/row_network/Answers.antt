use Rattle.std.proofs.Common.{sym, subst}
use Rattle.hsp_network.specs.Network.{IsNetwork}
use Rattle.hsp_flow.proofs.Limits.{network_is}
use Rattle.hsp_flow.proofs.planning.row_network.Goals as goal

pub invariant_of-result : goal.invariant_of-result
invariant_of-result c = record {
  ends =
      rw (
        c.deref.ensures.value,
        c.deref-2.ensures.value,
        c.deref-3.ensures.value,
        c.deref-4.ensures.value,
        c.deref-5.ensures.value,
        c.deref-6.ensures.value,
        c.deref-7.ensures.value,
      )
      (subst IsNetwork (sym c.requires.rows) (network_is c.args.instance.now c.requires.within));
}
