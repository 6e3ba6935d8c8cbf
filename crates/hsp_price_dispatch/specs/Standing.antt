-- What the lists beside a front's numbers hold.
use Rattle.std.specs.Prelude.{◌≡◌, ◌≤◌, ◌<◌, ◌+◌, ℕ, List, [], None, Option, Some, length, map, slice_index, All}
use Rattle.std.specs.Prelude.{true, ⊤}
use Rattle.std.specs.List.{AllByRecursion}
use Rattle.hsp_tables.specs.Costs.{AreCosts}
use Rattle.hsp_instance.specs.RowArcs.{ArcsInTurn}
use Rattle.hsp_instance.specs.declared.arc.Arc.{Arc}
use Rattle.hsp_prices.specs.Rows.{Service}
use Rattle.hsp_price_text.specs.Claim.{Best}
use Rattle.hsp_price_text.specs.Certificate.{IsCertificate}
use Rattle.hsp_price_text.specs.declared.certificate.PriceCertificate.TheVariants as certificate
use Rattle.hsp_check.specs.Lists.{HostsAreBelow}
use Rattle.hsp_prices.specs.Shown.{IsService}
use Rattle.hsp_prices.specs.Sums.{host_load_at, load_at}
use Rattle.hsp_price_check.specs.ClassNumbers.{HasClasses}
use Rattle.hsp_price_check.specs.Extras.{AreExtras}
use Rattle.hsp_price_check.specs.Passed.{class_at}
use Rattle.hsp_price_check.specs.PlanPass.{AreNumbersOf}
use Rattle.hsp_price_dispatch.specs.Choosing.{first_cell}
use Rattle.hsp_price_dispatch.specs.Holding.{Held, held_at, host_held_at}
use Rattle.hsp_price_dispatch.specs.Regions.{has_cost}
use Rattle.hsp_price_dispatch.specs.Starting.{Fits}
use Rattle.hsp_price_dispatch.specs.declared.choosing.Index.{Index}
use Rattle.hsp_price_dispatch.specs.declared.starting.Accepted.{Accepted}

-- the hosts of servers, and what is held at each server and each host
pub record IsStanding (own : Held) (server_hosts : List (Option ℕ)) (held host_held : List ℕ) : Type 0 where
  pub server_hosts_are : server_hosts ≡ map (λ server. server.host) own.service.servers
  pub hosts_below : HostsAreBelow (length own.host_rooms) server_hosts
  pub rooms_many : length own.rooms ≡ length own.service.servers
  pub servers_in : All (λ cell. cell.server < length own.service.servers) own.cells
  pub held_is : (j : ℕ) → slice_index held j ≡ held_at own j
  pub host_held_is : (h : ℕ) → slice_index host_held h ≡ host_held_at own h

-- the prices, the classes and the numbers of their first cells
pub record IsIndexOf (own : Held) (index : Index) : Type 0 where
  pub prices : length own.plan.server_prices ≡ length own.service.servers
  pub extras : AreExtras (map (λ server. server.host) own.service.servers) own.plan.server_prices
      own.plan.host_prices index.extras.items
  pub classes : HasClasses own.plan.classes index.classes.entries
  pub firsts_many : length index.firsts.items ≡ length own.plan.classes
  pub firsts : (k : ℕ) → k < length own.plan.classes
      → slice_index index.firsts.items k ≡ first_cell own.plan.classes k
  pub cells : (k : ℕ) → k < length own.plan.classes
      → first_cell own.plan.classes k + length (class_at own.plan k).servers ≤ length own.cells

-- The arcs are looked for in the service, which is within its limits. Each region that is known has a cost at a site.
pub record IsOfService (at : Service) (arcs : ArcsInTurn) : Type 0 where
  pub service : IsService at
  pub costs : AreCosts at.costs
  pub costs_are : arcs.costs ≡ at.costs
  pub sites_are : arcs.sites ≡ at.sites
  pub regions : AllByRecursion (λ region. has_cost at region ≡ true) arcs.regions

-- a plan that fits, the service's numbers, and what the classes bring to servers and hosts
pub record IsAccepted (at : Service) (plan : Best) (accepted : Accepted) : Type 0 where
  pub service : IsService at
  pub within : IsCertificate (certificate.Plan plan)
  pub fits : Fits at plan
  pub numbers : AreNumbersOf at accepted.numbers
  pub loads_many : length accepted.loads.items ≡ length at.servers
  pub loads : (j : ℕ) → j < length at.servers → slice_index accepted.loads.items j ≡ load_at at plan [] j
  pub host_loads_many : length accepted.host_loads.items ≡ length at.hosts
  pub host_loads : (h : ℕ) → h < length at.hosts
      → slice_index accepted.host_loads.items h ≡ host_load_at at plan [] h

-- if there is a class, it is one of the plan, with a server for each of the arcs
abbrev pub ClassIsThere : Best → List Arc → Option ℕ → Type 0
ClassIsThere plan arcs None = ⊤
ClassIsThere plan arcs (Some k) = (k < length plan.classes) × (length (class_at plan k).servers ≡ length arcs)
