use Rattle.std.proofs.Common.{◌≡◌, ◌∙◌, List, [], ap, arith, length, sym}
use Rattle.std.proofs.lemmas.Bool.{true≢false}
use Rattle.std.proofs.lemmas.List.{length-map}
use Rattle.hsp_tables.specs.Costs.{CostEntry}
use Rattle.hsp_instance.specs.Instance.{Server}
use Rattle.hsp_check.specs.Lists.{AreHosted, AreWithin}
use Rattle.hsp_prices.specs.Shown.{IsService}
use Rattle.hsp_price_check.specs.Classes.{AreClassLoads, service_of}
use Rattle.hsp_price_dispatch.proofs.Starts.{host_loads_are, hosts_many, loads_are, loads_small}
use Rattle.hsp_price_dispatch.proofs.Starts.{meets_loads, servers_many}
use Rattle.hsp_price_dispatch.proofs.Starts.{within_hosts, within_servers}
use Rattle.hsp_price_dispatch.proofs.starting.within_limits.Goals as goal

pub class_loads-requires : goal.class_loads-requires
class_loads-requires c =
    let numbers = c.requires.numbers [] in
    let many : c.len.result ≡ length c.args.instance.now.servers =
    omega (
      arith,
      c.len.ensures,
      ap (λ list. length list) numbers.capacities,
      length-map c.args.instance.now.servers (λ (s : Server). s.capacity),
    ) in
    rw (c.classes.ensures, many) (c.requires.there [])

pub returns-then-not-are_within-clause-fault : goal.returns-then-not-are_within-clause-fault
returns-then-not-are_within-clause-fault c costs =
    let at = service_of costs c.args.instance.now in
    let w = c.servers-servers.ensures.within in
    let service : IsService at = record { sites = w.sites; hosts = w.hosts; servers = w.servers } in
    let plan = c.args.plan.now in
    let numbers = c.args.numbers in
    let are = c.requires.numbers costs in
    let loads = c.in_ok-loads.loads.items in
    let long : c.len.result ≡ length numbers.capacities.items = omega (arith, c.len.ensures) in
    let sums : AreClassLoads (length numbers.capacities.items) plan.classes loads =
    rw (← long, ← c.classes.ensures) c.in_ok-loads.ensures in (
      c.requires.shape costs,
      c.requires.there costs,
      λ load.
          let within : AreWithin c.deref.result.now c.deref-2.result.now =
          rw (c.deref.ensures.value, c.deref-2.ensures.value)
          (within_servers at plan service numbers are loads sums load) in
          absurd (true≢false (sym (c.are_within.ensures.1 within) ∙ c.if-not-are_within.true)),
    )

pub add_hosts-requires-clause-small : goal.add_hosts-requires-clause-small
add_hosts-requires-clause-small c =
    let costs : List CostEntry = [] in
    let at = service_of costs c.args.instance.now in
    let w = c.servers-servers.ensures.within in
    let service : IsService at = record { sites = w.sites; hosts = w.hosts; servers = w.servers } in
    let plan = c.args.plan.now in
    let numbers = c.args.numbers in
    let are = c.requires.numbers costs in
    let loads = c.in_ok-loads.loads.items in
    let long : c.len.result ≡ length numbers.capacities.items = omega (arith, c.len.ensures) in
    let sums : AreClassLoads (length numbers.capacities.items) plan.classes loads =
    rw (← long, ← c.classes.ensures) c.in_ok-loads.ensures in
    let within : AreWithin numbers.capacities.items loads =
    rw (← c.deref.ensures.value, ← c.deref-2.ensures.value) (c.are_within.ensures.0 c.if-not-are_within.false) in
    rw c.deref-4.ensures.value (loads_small at plan service numbers are loads sums within)

pub returns-then-not-are_within-2-clause-fault : goal.returns-then-not-are_within-2-clause-fault
returns-then-not-are_within-2-clause-fault c costs =
    let at = service_of costs c.args.instance.now in
    let w = c.servers-servers.ensures.within in
    let service : IsService at = record { sites = w.sites; hosts = w.hosts; servers = w.servers } in
    let plan = c.args.plan.now in
    let numbers = c.args.numbers in
    let are = c.requires.numbers costs in
    let loads = c.in_ok-loads.loads.items in
    let long : c.len.result ≡ length numbers.capacities.items = omega (arith, c.len.ensures) in
    let sums : AreClassLoads (length numbers.capacities.items) plan.classes loads =
    rw (← long, ← c.classes.ensures) c.in_ok-loads.ensures in
    let within : AreWithin numbers.capacities.items loads =
    rw (← c.deref.ensures.value, ← c.deref-2.ensures.value) (c.are_within.ensures.0 c.if-not-are_within.false) in
    let host_loads = c.in_ok-host_loads.host_loads.items in
    let hosted : AreHosted numbers.server_hosts.items loads host_loads =
    rw (← c.deref-3.ensures.value, ← c.deref-4.ensures.value) c.in_ok-host_loads.ensures.sums in
    let many : length host_loads ≡ length numbers.limits.items =
    omega (arith, c.in_ok-host_loads.ensures.len, c.len-2.ensures) in (
      c.requires.shape costs,
      c.requires.there costs,
      λ load.
          let low : AreWithin c.deref-5.result.now c.deref-6.result.now =
          rw (c.deref-5.ensures.value, c.deref-6.ensures.value)
          (within_hosts at plan service numbers are loads sums within host_loads hosted many load) in
          absurd (true≢false (sym (c.are_within-2.ensures.1 low) ∙ c.if-not-are_within-2.true)),
    )

pub returns-clause-accepted : goal.returns-clause-accepted
returns-clause-accepted c costs =
    let at = service_of costs c.args.instance.now in
    let w = c.servers-servers.ensures.within in
    let service : IsService at = record { sites = w.sites; hosts = w.hosts; servers = w.servers } in
    let plan = c.args.plan.now in
    let numbers = c.args.numbers in
    let are = c.requires.numbers costs in
    let loads = c.in_ok-loads.loads.items in
    let long : c.len.result ≡ length numbers.capacities.items = omega (arith, c.len.ensures) in
    let sums : AreClassLoads (length numbers.capacities.items) plan.classes loads =
    rw (← long, ← c.classes.ensures) c.in_ok-loads.ensures in
    let within : AreWithin numbers.capacities.items loads =
    rw (← c.deref.ensures.value, ← c.deref-2.ensures.value) (c.are_within.ensures.0 c.if-not-are_within.false) in
    let host_loads = c.in_ok-host_loads.host_loads.items in
    let hosted : AreHosted numbers.server_hosts.items loads host_loads =
    rw (← c.deref-3.ensures.value, ← c.deref-4.ensures.value) c.in_ok-host_loads.ensures.sums in
    let many : length host_loads ≡ length numbers.limits.items =
    omega (arith, c.in_ok-host_loads.ensures.len, c.len-2.ensures) in
    let low : AreWithin numbers.limits.items host_loads =
    rw (← c.deref-5.ensures.value, ← c.deref-6.ensures.value) (c.are_within-2.ensures.0 c.if-not-are_within-2.false) in
    record {
      service = service;
      within = c.cost-cost.ensures.within;
      fits =
          record {
            shape = c.requires.shape costs;
            there = c.requires.there costs;
            load = meets_loads at plan service numbers are loads sums within host_loads hosted many low;
          };
      numbers = are;
      loads_many =
          omega (arith, sums.many, servers_many at plan service numbers are loads sums);
      loads = loads_are at plan service numbers are loads sums within;
      host_loads_many = hosts_many at plan service numbers are loads sums within host_loads hosted many;
      host_loads = host_loads_are at plan service numbers are loads sums within host_loads hosted many;
    }
