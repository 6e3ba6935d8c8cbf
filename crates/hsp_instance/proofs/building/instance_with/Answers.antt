use Rattle.std.proofs.Common.{◌≡◌, ◌∙◌, None, Ok, [], ap, map, refl, sym}
use Rattle.std.proofs.lemmas.List.{length-map}
use Rattle.hsp_instance.specs.Building.{arcs_from, capacity_fault, cost_fault, host_of_entry, row_of, servers_from}
use Rattle.hsp_instance.specs.Building.{unless}
use Rattle.hsp_instance.specs.RegionCosts.{arcs_of}
use Rattle.hsp_instance.specs.Instance.{Row}
use Rattle.hsp_instance.proofs.Limits.{are_instance}
use Rattle.hsp_instance.proofs.Lists.{map_twice}
use Rattle.hsp_instance.proofs.building.instance_with.Goals as goal

pub servers_of-requires-clause-hosts : goal.servers_of-requires-clause-hosts
servers_of-requires-clause-hosts c =
    rw (c.as_slice.ensures.value, c.in_ok-hosts.ensures.hosts, length-map) c.in_ok-hosts.ensures.within.hosts.few

pub invariant_of-result : goal.invariant_of-result
invariant_of-result c =
    let same : c.as_slice-list.result.now ≡ c.args.sites = c.as_slice-list.ensures.value ∙ c.sites.view_is in
    let hosts : c.as_slice.result.now ≡ map host_of_entry c.args.settings.now.hosts =
    c.as_slice.ensures.value ∙ c.in_ok-hosts.ensures.hosts in
    let built : servers_from c.args.tables.capacity.now (map host_of_entry c.args.settings.now.hosts) 0 [] c.args.sites
    ≡ Ok c.in_ok-servers.servers.items = rw (← same, ← hosts) c.in_ok-servers.ensures.ok in
    let arcs =
    c.in_ok-arcs.ensures.arcs
    ∙ ap (λ sites. map (arcs_of c.args.tables.costs.now sites) c.args.tables.demand.now) same
    ∙ sym
    (map_twice row_of (λ (row : Row). arcs_from c.args.tables.costs.now row 0 0 c.args.sites)
    c.args.tables.demand.now) in
    let copy = c.in_ok-demand.ensures.cases in
    rw (copy, c.in_ok-hosts.ensures.hosts, arcs)
    (are_instance
    (record {
      settings = c.args.settings.now;
      values = None;
      demand = c.args.tables.demand.now;
      costs = c.args.tables.costs.now;
      capacities = c.args.tables.capacity.now;
    }) c.args.sites
    c.in_ok-servers.servers.items
    c.in_ok-hosts.ensures.within c.in_ok-arcs.ensures.within c.in_ok-check_costs.ensures.within
    c.in_ok-check_capacities.ensures.within (rw c.sites.view_is at c.sites.invariant) built)

pub returns : goal.returns
returns c values =
    let same : c.as_slice-list.result.now ≡ c.args.sites = c.as_slice-list.ensures.value ∙ c.sites.view_is in
    let hosts : c.as_slice.result.now ≡ map host_of_entry c.args.settings.now.hosts =
    c.as_slice.ensures.value ∙ c.in_ok-hosts.ensures.hosts in
    let no_cost_fault : unless (cost_fault c.args.sites 0 c.args.tables.costs.now)
    ≡ Ok c.in_ok-check_costs.field-0 = rw (← same) c.in_ok-check_costs.ensures.fault in
    let no_capacity_fault : unless (capacity_fault c.args.sites 0 c.args.tables.capacity.now)
    ≡ Ok c.in_ok-check_capacities.field-0 = rw (← same) c.in_ok-check_capacities.ensures.fault in
    let built : servers_from c.args.tables.capacity.now (map host_of_entry c.args.settings.now.hosts) 0 [] c.args.sites
    ≡ Ok c.in_ok-servers.servers.items = rw (← same, ← hosts) c.in_ok-servers.ensures.ok in
    let arcs =
    c.in_ok-arcs.ensures.arcs
    ∙ ap (λ sites. map (arcs_of c.args.tables.costs.now sites) c.args.tables.demand.now) same
    ∙ sym
    (map_twice row_of (λ (row : Row). arcs_from c.args.tables.costs.now row 0 0 c.args.sites)
    c.args.tables.demand.now) in
    let copy = c.in_ok-demand.ensures.cases in
    rw (no_cost_fault, no_capacity_fault, built, copy, c.in_ok-hosts.ensures.hosts, arcs) refl
