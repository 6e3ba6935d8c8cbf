-- What a plan's pass tests at its end is what the certificate has to meet.
use Rattle.std.proofs.Common.{◌≡◌, ◌≤◌, ◌<◌, ◌^◌, ℕ, true, List, length, map}
use Rattle.std.proofs.Common.{nat_le, slice_index, if◌then◌else◌, ap, sym, ◌∙◌, arith}
use Rattle.std.proofs.lemmas.List.{length-map}
use Rattle.std.proofs.lemmas.Bool.{and_parts}
use Rattle.hsp_text.specs.declared.limits.TheConstants.{GREATEST_CAPACITY, GREATEST_SUM}
use Rattle.hsp_transport.specs.Sums.{sum_below}
use Rattle.hsp_instance.specs.Instance.{Row, Server}
use Rattle.hsp_check.specs.ArcFlows.{host_in}
use Rattle.hsp_check.specs.Lists.{AreHosted, AreIdle, AreWithin}
use Rattle.hsp_check.specs.Plan.{is_on}
use Rattle.hsp_prices.specs.Rows.{Service}
use Rattle.hsp_price_text.specs.Claim.{Best}
use Rattle.hsp_transport.proofs.Summing.{sum_below_same}
use Rattle.hsp_prices.specs.Sums.{cost_in_all, host_load_at, load_at}
use Rattle.hsp_prices.specs.Verdict.{PlanMeets}
use Rattle.hsp_prices.specs.declared.verdict.PriceReason.TheVariants.{Load, Cost, IdlePrice}
use Rattle.hsp_prices.proofs.Bounds.{capacity_low}
use Rattle.hsp_price_check.specs.Passed.{capped}
use Rattle.hsp_price_check.specs.PlanPass.{IsPlanPass}
use Rattle.hsp_price_check.specs.declared.plan_pass.PlanPass.{PlanPass}
use Rattle.hsp_price_check.proofs.Capping.{kept_within, within_kept}

-- a sum that is kept as a small number is that number
pub exact : (n m : ℕ) → m < 2 ^ 64 → capped n ≡ m → n ≡ m
exact n m small is = grind (arith, small, is)

module _ (at : Service) (plan : Best) (rows : List Row) (pass : PlanPass) (is : IsPlanPass at plan rows pass) where
  abbrev capacities : List ℕ
  capacities = pass.numbers.capacities.items

  abbrev loads : List ℕ
  loads = pass.sums.loads.items

  -- as many servers as the service has
  servers_many : length capacities ≡ length at.servers
  servers_many = ap (λ list. length list) is.numbers.capacities ∙ length-map at.servers (λ server. server.capacity)

  -- a capacity is small
  small : (j : ℕ) → slice_index capacities j < 2 ^ 64
  small j =
      let low : slice_index (map (λ (server : Server). server.capacity) at.servers) j ≤ GREATEST_CAPACITY =
      capacity_low at.sites (length at.hosts) at.servers is.service.servers.each j in
      rw is.numbers.capacities (omega (arith, low))

  -- servers take no more than they can where the sums are within
  pub servers_within : AreWithin capacities loads → (j : ℕ) → j < length at.servers
      → load_at at plan rows j ≤ slice_index (map (λ server. server.capacity) at.servers) j
  servers_within within j l =
      let kept : slice_index loads j ≤ slice_index capacities j = within j (omega (arith, l, servers_many)) in
      let bound : load_at at plan rows j ≤ slice_index capacities j =
      within_kept (load_at at plan rows j) (slice_index capacities j) (small j) (rw (← is.sums.loads j l) kept) in
      rw (← is.numbers.capacities) bound

  -- and only there
  pub within_servers : PlanMeets at rows plan Load → AreWithin capacities loads
  within_servers meets j l =
      let here : j < length at.servers = omega (arith, l, servers_many) in
      let bound : load_at at plan rows j ≤ slice_index capacities j = rw is.numbers.capacities (meets.0 j here) in
      let same : slice_index loads j ≡ load_at at plan rows j =
      is.sums.loads j here ∙ kept_within (load_at at plan rows j) (slice_index capacities j) (small j) bound in
      omega (arith, same, bound)

  -- sums that are within are small
  pub loads_small : AreWithin capacities loads → (v : ℕ) → v < length loads → slice_index loads v < 2 ^ 100
  loads_small within v l =
      let here : v < length capacities = omega (arith, l, is.sums.loads_many, servers_many) in
      omega (arith, within v here, small v)

  module _ (within : AreWithin capacities loads) where
    -- each sum is what the server takes
    loads_are : (j : ℕ) → j < length at.servers → slice_index loads j ≡ load_at at plan rows j
    loads_are j l =
        let bound : load_at at plan rows j ≤ slice_index capacities j =
        rw is.numbers.capacities (servers_within within j l) in
        is.sums.loads j l ∙ kept_within (load_at at plan rows j) (slice_index capacities j) (small j) bound

    module _ (sums : List ℕ) (hosted : AreHosted pass.numbers.server_hosts.items loads sums)
        (many : length sums ≡ length pass.numbers.limits.items) where
      -- as many hosts as the service has
      hosts_many : length sums ≡ length at.hosts
      hosts_many =
          many ∙ ap (λ list. length list) is.numbers.limits ∙ length-map at.hosts (λ host. host.limit)

      -- each host's sum is what its servers take
      pub hosts_are : (h : ℕ) → h < length at.hosts → slice_index sums h ≡ host_load_at at plan rows h
      hosts_are h l =
          let hosts = pass.numbers.server_hosts.items in
          let own : slice_index sums h
          ≡ sum_below (length hosts) (λ j. if is_on (host_in hosts j) h then slice_index loads j else 0) =
          hosted h (omega (arith, l, hosts_many)) in
          let length_is : length hosts ≡ length at.servers =
          ap (λ list. length list) is.numbers.server_hosts ∙ length-map at.servers (λ server. server.host) in
          own
          ∙ ap (λ n. sum_below n (λ j. if is_on (host_in hosts j) h then slice_index loads j else 0)) length_is
          ∙ sum_below_same (length at.servers) _ _
          (λ j inside. ap (λ v. if is_on (host_in hosts j) h then v else 0) (loads_are j inside)
          ∙ ap (λ list. if is_on (host_in list j) h then load_at at plan rows j else 0) is.numbers.server_hosts)

      -- loads are met where the hosts' sums are within, too
      pub meets_loads : AreWithin pass.numbers.limits.items sums → PlanMeets at rows plan Load
      meets_loads hosts_in = (
        servers_within within,
        (λ h l.
            let kept : slice_index sums h ≤ slice_index pass.numbers.limits.items h =
            hosts_in h (omega (arith, l, many, hosts_many)) in
            rw (← hosts_are h l, ← is.numbers.limits) kept),
      )

      -- and only there
      pub within_hosts : PlanMeets at rows plan Load → AreWithin pass.numbers.limits.items sums
      within_hosts meets h l =
          let here : h < length at.hosts = omega (arith, l, many, hosts_many) in
          rw (hosts_are h here, is.numbers.limits) (meets.1 h here)

      -- idle servers and hosts are free where the lists say so
      pub meets_idle : AreIdle capacities loads plan.server_prices
          → AreIdle pass.numbers.limits.items sums plan.host_prices → PlanMeets at rows plan IdlePrice
      meets_idle servers hosts = (
        (λ j l less.
            servers j (omega (arith, l, servers_many)) (rw (loads_are j l, is.numbers.capacities) less)),
        (λ h l less.
            hosts h (omega (arith, l, many, hosts_many)) (rw (hosts_are h l, is.numbers.limits) less)),
      )

      -- and only there
      pub idle_servers : PlanMeets at rows plan IdlePrice → AreIdle capacities loads plan.server_prices
      idle_servers meets j l less =
          let here : j < length at.servers = omega (arith, l, servers_many) in
          meets.0 j here (rw (← loads_are j here, ← is.numbers.capacities) less)

      -- both of servers and of hosts
      pub idle_hosts : PlanMeets at rows plan IdlePrice → AreIdle pass.numbers.limits.items sums plan.host_prices
      idle_hosts meets h l less =
          let here : h < length at.hosts = omega (arith, l, many, hosts_many) in
          meets.1 h here (rw (← hosts_are h here, ← is.numbers.limits) less)

  -- a printed cost is small
  cost_small : plan.cost < 2 ^ 64
  cost_small =
      let low : nat_le plan.cost GREATEST_SUM ≡ true = (and_parts _ _ is.within).0 in
      grind (arith, low)

  -- the cost is what is said where the sum that is kept is
  pub meets_cost : plan.cost ≡ pass.sums.cost → PlanMeets at rows plan Cost
  meets_cost e = sym (exact (cost_in_all at plan rows) plan.cost cost_small (sym is.sums.cost ∙ sym e))

  -- and only there
  pub cost_met : PlanMeets at rows plan Cost → plan.cost ≡ pass.sums.cost
  cost_met e =
      e ∙ sym (is.sums.cost
      ∙ kept_within (cost_in_all at plan rows) plan.cost cost_small (omega (arith, e)))
