use Rattle.std.proofs.Common.{◌≡◌, ◌++◌, drop, take}
use Rattle.hsp_names.specs.Lent.{octets_of}
use Rattle.hsp_instance.specs.Instance.{servers_of}
use Rattle.hsp_instance.specs.RegionCosts.{arcs_by}
use Rattle.hsp_instance.proofs.arc_building.fill_arcs.Given as goal

abbrev pub invariant-loop-number : goal.invariant-loop-number
invariant-loop-number l = record {
  first : l.first ≡ servers_of (take l.number l.sites);
  same : l.digests ≡ octets_of l.handle;
  so_far : l.arcs.items ++ arcs_by (octets_of l.handle) l.number l.first (drop l.number l.sites) (drop l.number l.costs)
      ≡ arcs_by (octets_of l.handle) 0 0 l.sites l.costs;
}
