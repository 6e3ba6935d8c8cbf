use Rattle.std.proofs.Common.{◌≡◌, map, take}
use Rattle.std.specs.List.{AllByRecursion}
use Rattle.hsp_instance.specs.RegionCosts.{HasCosts, arcs_of}
use Rattle.hsp_instance.proofs.arc_building.arcs_of.Given as goal

abbrev pub invariant-loop-number : goal.invariant-loop-number
invariant-loop-number l = record {
  known : AllByRecursion (HasCosts l.costs l.sites) l.known.entries;
  lists : l.lists.items ≡ map (arcs_of l.costs l.sites) (take l.number l.demand);
}
