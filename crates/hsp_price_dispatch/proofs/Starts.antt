-- What a front begins with: sums that are kept exactly, and rooms.
use Rattle.std.proofs.Common.{◌≡◌, ◌≢◌, ◌<◌, ◌≤◌, ◌+◌, ◌^◌, ◌==◌, ◌∙◌, ℕ, List, [], length}
use Rattle.std.proofs.Common.{ap, arith, get_or, if◌then◌else◌, inl, inr, refl, slice_index, slice_set, sym}
use Rattle.std.proofs.Common.{sum_by, take, eq-eqb, ne_eqb, get_or-set_other, get_or-set_same, zero-add}
use Rattle.std.proofs.lemmas.Bool.{cases_eq}
use Rattle.std.proofs.lemmas.List.{length-map}
use Rattle.std.proofs.lemmas.List.Sums.{sum_by_more}
use Rattle.hsp_transport.specs.Sums.{sum_below}
use Rattle.hsp_transport.proofs.Summing.{sum_below_same}
use Rattle.hsp_instance.specs.Instance.{Host, Server}
use Rattle.hsp_check.specs.ArcFlows.{host_in}
use Rattle.hsp_check.specs.Lists.{AreHosted, AreWithin}
use Rattle.hsp_check.specs.Plan.{is_on}
use Rattle.hsp_prices.specs.Rows.{Service}
use Rattle.hsp_price_text.specs.Claim.{Best}
use Rattle.hsp_prices.specs.Least.{host_at}
use Rattle.hsp_prices.specs.Shown.{IsService}
use Rattle.hsp_prices.specs.Sums.{class_load, host_load_at, load_at}
use Rattle.hsp_prices.specs.Verdict.{PlanMeets}
use Rattle.hsp_prices.specs.declared.verdict.PriceReason.TheVariants.{Load}
use Rattle.hsp_prices.proofs.Bounds.{capacity_low}
use Rattle.hsp_price_check.specs.Classes.{AreClassLoads}
use Rattle.hsp_price_check.specs.Passed.{capped}
use Rattle.hsp_price_check.specs.PlanPass.{AreNumbersOf}
use Rattle.hsp_price_check.specs.declared.numbers.ServiceNumbers.{ServiceNumbers}
use Rattle.hsp_price_check.proofs.Capping.{kept_within, within_kept}
use Rattle.hsp_price_dispatch.specs.Holding.{left_where}
use Rattle.hsp_price_dispatch.specs.Starting.{capacity_at}
use Rattle.hsp_price_dispatch.specs.declared.cells.Cell.{Cell}

-- the capacity of a server is small
pub capacity_small : (at : Service) → IsService at → (j : ℕ) → capacity_at at j < 2 ^ 64
capacity_small at is j =
    let low = capacity_low at.sites (length at.hosts) at.servers is.servers.each j in omega (arith, low)

module _ (at : Service) (plan : Best) (is : IsService at) (numbers : ServiceNumbers) (are : AreNumbersOf at numbers)
    (loads : List ℕ) (sums : AreClassLoads (length numbers.capacities.items) plan.classes loads) where
  -- as many servers as the service has
  pub servers_many : length numbers.capacities.items ≡ length at.servers
  servers_many =
      ap (λ (list : List ℕ). length list) are.capacities ∙ length-map at.servers (λ (server : Server). server.capacity)

  -- the capacities are those of the service
  capacities_are : (j : ℕ) → slice_index numbers.capacities.items j ≡ capacity_at at j
  capacities_are j = ap (λ (list : List ℕ). slice_index list j) are.capacities

  -- the sums are those of the classes, as far as they are kept
  sum_is : (j : ℕ) → j < length at.servers → slice_index loads j ≡ capped (load_at at plan [] j)
  sum_is j l =
      sums.each j (omega (arith, servers_many))
      ∙ ap capped (sym (zero-add (sum_by (class_load j) plan.classes)))

  -- classes bring no server too much where the sums are within
  pub servers_within : AreWithin numbers.capacities.items loads → (j : ℕ) → j < length at.servers
      → load_at at plan [] j ≤ capacity_at at j
  servers_within within j l =
      let low = within j (omega (arith, servers_many)) in
      within_kept (load_at at plan [] j) (capacity_at at j) (capacity_small at is j)
      (omega (arith, low, sum_is j l, capacities_are j))

  -- and only there
  pub within_servers : PlanMeets at [] plan Load → AreWithin numbers.capacities.items loads
  within_servers meets j l =
      let here : j < length at.servers = omega (arith, servers_many) in
      let low : load_at at plan [] j ≤ capacity_at at j = meets.0 j here in
      let same = kept_within (load_at at plan [] j) (capacity_at at j) (capacity_small at is j) low in
      omega (arith, sum_is j here, same, low, capacities_are j)

  module _ (within : AreWithin numbers.capacities.items loads) where
    -- the sums are small
    pub loads_small : (v : ℕ) → v < length loads → slice_index loads v < 2 ^ 100
    loads_small v l =
        let low = within v (omega (arith, sums.many)) in
        omega (arith, low, capacities_are v, capacity_small at is v)

    -- and exact
    pub loads_are : (j : ℕ) → j < length at.servers → slice_index loads j ≡ load_at at plan [] j
    loads_are j l =
        sum_is j l
        ∙ kept_within (load_at at plan [] j) (capacity_at at j) (capacity_small at is j) (servers_within within j l)

    module _ (host_loads : List ℕ) (hosted : AreHosted numbers.server_hosts.items loads host_loads)
        (many : length host_loads ≡ length numbers.limits.items) where
      -- as many hosts as the service has
      pub hosts_many : length host_loads ≡ length at.hosts
      hosts_many =
          many ∙ ap (λ (list : List ℕ). length list) are.limits ∙ length-map at.hosts (λ (host : Host). host.limit)

      -- each host's sum is what the classes bring to its servers
      pub host_loads_are : (h : ℕ) → h < length at.hosts → slice_index host_loads h ≡ host_load_at at plan [] h
      host_loads_are h l =
          let hosts = numbers.server_hosts.items in
          let length_is : length hosts ≡ length at.servers =
          ap (λ list. length list) are.server_hosts ∙ length-map at.servers (λ (server : Server). server.host) in
          hosted h (omega (arith, l, hosts_many))
          ∙ ap (λ n. sum_below n (λ j. if is_on (host_in hosts j) h then slice_index loads j else 0)) length_is
          ∙ sum_below_same (length at.servers) (λ j. if is_on (host_in hosts j) h then slice_index loads j else 0)
          (λ j. if is_on (host_at at j) h then load_at at plan [] j else 0)
          (λ j inside. ap (λ v. if is_on (host_in hosts j) h then v else 0) (loads_are j inside)
          ∙ ap (λ list. if is_on (host_in list j) h then load_at at plan [] j else 0) are.server_hosts)

      -- the plan meets its loads where the hosts' sums are within, too
      pub meets_loads : AreWithin numbers.limits.items host_loads → PlanMeets at [] plan Load
      meets_loads hosts_in = (
        servers_within within,
        λ h l.
            let kept : slice_index host_loads h ≤ slice_index numbers.limits.items h =
            hosts_in h (omega (arith, l, many, hosts_many)) in
            rw (← host_loads_are h l, ← are.limits) kept,
      )

      -- and only there
      pub within_hosts : PlanMeets at [] plan Load → AreWithin numbers.limits.items host_loads
      within_hosts meets h l =
          let here : h < length at.hosts = omega (arith, l, many, hosts_many) in
          rw (host_loads_are h here, are.limits) (meets.1 h here)

-- ---- what is held at first

-- what a cell has at a server
abbrev at_server : ℕ → Cell → ℕ
at_server j cell = if cell.server == j then cell.left else 0

-- one cell more
pub held_more : (held : List ℕ) (cells : List Cell) (i value j : ℕ) (d : Cell) → i < length cells
    → (get_or cells i d).server < length held
    → value ≡ capped (slice_index held (get_or cells i d).server + (get_or cells i d).left)
    → slice_index held j ≡ capped (left_where (λ k. k == j) (take i cells))
    → slice_index (slice_set held (get_or cells i d).server value) j
    ≡ capped (left_where (λ k. k == j) (take (i + 1) cells))
held_more held cells i value j d inside there is before =
    let cell = get_or cells i d in
    let more = sum_by_more (at_server j) cells i d inside in
    elim (cases_eq cell.server j) [
      | inl same ↦
          let set : slice_index (slice_set held cell.server value) j ≡ value =
          ap (λ n. slice_index (slice_set held cell.server value) n) (sym same)
          ∙ get_or-set_same held cell.server value 0 there in
          let own : at_server j cell ≡ cell.left = rw (eq-eqb cell.server j same) refl in
          let at : slice_index held cell.server ≡ slice_index held j = ap (slice_index held) same in
          omega (arith, set, is, more, own, at, before)
      | inr other ↦
          let apart : j ≢ cell.server = λ q. other (sym q) in
          let set = get_or-set_other held cell.server j value 0 apart in
          let own : at_server j cell ≡ 0 = rw (ne_eqb cell.server j other) refl in
          omega (arith, set, more, own, before)
    ]
