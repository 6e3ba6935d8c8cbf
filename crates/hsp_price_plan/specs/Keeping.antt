-- To keep more arcs of a row, by its entries.
use Rattle.std.specs.Prelude.{◌≡◌, ◌≤◌, ◌+◌, ℕ, ⊤, Bool, List, [], ◌∷◌, length, min, nat_le}
use Rattle.std.specs.List.{list_all}
use Rattle.hsp_instance.specs.declared.arc.Arc.{Arc}
use Rattle.hsp_transport.specs.Lists.{flag_at}
use Rattle.hsp_prices.specs.KeptRows.{KeptRow, arcs_in, keeping, with_least, with_leaving}
use Rattle.hsp_price_check.specs.Extras.{pay_by}
use Rattle.hsp_price_check.specs.LeastPay.{AreLow}
use Rattle.hsp_price_plan.specs.Entries.{arcs_by, loose_count}
use Rattle.hsp_price_plan.specs.Regions.{RegionArcs}
use Rattle.hsp_price_plan.specs.declared.keeping.Keep.{Keep}
use Rattle.hsp_price_plan.specs.declared.keeping.Keep.TheVariants as keep
use Rattle.hsp_price_plan.specs.declared.region.SiteCost.{SiteCost}

-- the least of a number and what a query pays over each arc
abbrev pub least_from : (Arc → ℕ) → ℕ → List Arc → ℕ
least_from pay least [] = least
least_from pay least (arc ∷ arcs) = least_from pay (min least (pay arc)) arcs

-- over no arc a query pays so much less that this arc is further than the window from it
abbrev pub is_near : (Arc → ℕ) → ℕ → List Arc → Arc → Bool
is_near pay window arcs arc = list_all (λ other. nat_le (pay arc) (pay other + window)) arcs

-- with the arcs over which a query pays at most so much more than the least
abbrev pub with_near : (Arc → ℕ) → ℕ → KeptRow → KeptRow
with_near pay window row = keeping (is_near pay window (arcs_in row)) row

-- what becomes of a row
abbrev pub kept_by : Keep → KeptRow → KeptRow
kept_by (keep.Least extras) = with_least (pay_by extras.now)
kept_by (keep.Near extras window) = with_near (pay_by extras.now) window
kept_by (keep.Leaving set) = with_leaving (flag_at set.now)

-- how many servers have a number or a flag
abbrev pub servers_in : Keep → ℕ
servers_in (keep.Least extras) = length extras.now
servers_in (keep.Near extras window) = length extras.now
servers_in (keep.Leaving set) = length set.now

-- each number is low enough for what a query pays
abbrev pub IsLow : Keep → Type 0
IsLow (keep.Least extras) = AreLow extras.now
IsLow (keep.Near extras window) = AreLow extras.now
IsLow (keep.Leaving set) = ⊤

-- a row of a region, by its entries
abbrev pub row_by : RegionArcs → List ℕ → ℕ → KeptRow
row_by region entries count = record {
  region = region.name;
  arcs = arcs_by region.shape entries;
  count = count;
}

-- by its entries a row, whatever its name and count, is what a function makes of it, and so many arcs weren't kept
pub record IsKeptBy (f : KeptRow → KeptRow) (shape : List SiteCost) (old new : List ℕ) (count : ℕ) : Type 0 where
  pub row : (name : List ℕ) (n : ℕ)
      → row_by (record { name = name; shape = shape }) new n ≡ f (row_by (record { name = name; shape = shape }) old n)
  pub counted : count + loose_count (arcs_by shape new) ≡ loose_count (arcs_by shape old)
  pub few : count ≤ length shape
