-- What a front begins with, and which plans fit a service.
use Rattle.std.specs.Prelude.{◌≡◌, ◌<◌, ◌+◌, ◌-◌, ⊤, ℕ, List, [], length, map, slice_index}
use Rattle.std.specs.List.{flat_map}
use Rattle.hsp_instance.specs.Instance.{Host}
use Rattle.hsp_prices.specs.Rows.{Service}
use Rattle.hsp_price_text.specs.Claim.{Best, Class}
use Rattle.hsp_prices.specs.Sums.{host_load_at, load_at, sends}
use Rattle.hsp_prices.specs.Verdict.{PlanMeets}
use Rattle.hsp_prices.specs.declared.verdict.PriceReason.TheVariants as reason
use Rattle.hsp_log.specs.FrontShares.{share}
use Rattle.hsp_price_dispatch.specs.Holding.{Held, held_at, host_held_at, host_room_at, room_at}
use Rattle.hsp_price_dispatch.specs.declared.cells.Cell.{Cell}
use Rattle.hsp_price_dispatch.specs.declared.fault.StartFault.{StartFault}
use Rattle.hsp_price_dispatch.specs.declared.fault.StartFault.TheVariants as fault

-- ---- the beginning

abbrev pub capacity_at : Service → ℕ → ℕ
capacity_at at j = slice_index (map (λ server. server.capacity) at.servers) j

abbrev pub limit_at : Service → ℕ → ℕ
limit_at at h = slice_index (map (λ (host : Host). host.limit) at.hosts) h

-- the cell of a server with its amount: all of the front's share is left
abbrev pub cell_of : ℕ → ℕ → ℕ × ℕ → Cell
cell_of fronts front sent =
    record { server = sent.0; share = share fronts front sent.1; left = share fronts front sent.1 }

abbrev pub cells_of : ℕ → ℕ → Class → List Cell
cells_of fronts front class = map (cell_of fronts front) (sends class)

-- A front begins with its share of each amount. At each server it has its share of the room beside all amounts there,
-- and room for its own amounts, and so it has at each host.
pub record IsBegun (at : Service) (plan : Best) (fronts front : ℕ) (own : Held) : Type 0 where
  pub service : own.service ≡ at
  pub plan_is : own.plan ≡ plan
  pub cells : own.cells ≡ flat_map (cells_of fronts front) plan.classes
  pub rooms_many : length own.rooms ≡ length at.servers
  pub rooms : (j : ℕ) → j < length at.servers
      → room_at own j ≡ share fronts front (capacity_at at j - load_at at plan [] j) + held_at own j
  pub host_rooms_many : length own.host_rooms ≡ length at.hosts
  pub host_rooms : (h : ℕ) → h < length at.hosts
      → host_room_at own h ≡ share fronts front (limit_at at h - host_load_at at plan [] h) + host_held_at own h

-- ---- plans that fit

-- there are as many prices as servers and hosts, the servers of classes are there, and no amounts are above what
-- servers and hosts take
pub record Fits (at : Service) (plan : Best) : Type 0 where
  pub shape : PlanMeets at [] plan reason.Shape
  pub there : PlanMeets at [] plan reason.NoSuchServer
  pub load : PlanMeets at [] plan reason.Load

-- a fault stands where its condition isn't met, and those before it are
abbrev pub Stands : Service → Best → StartFault → Type 0
Stands at plan fault.Shape = PlanMeets at [] plan reason.Shape → ⊥
Stands at plan fault.NoSuchServer =
    PlanMeets at [] plan reason.Shape × (PlanMeets at [] plan reason.NoSuchServer → ⊥)
Stands at plan fault.Load =
    PlanMeets at [] plan reason.Shape × PlanMeets at [] plan reason.NoSuchServer
    × (PlanMeets at [] plan reason.Load → ⊥)
Stands at plan fault.OutOfMemory = ⊤
