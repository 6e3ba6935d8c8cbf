-- What a pass over rows has added up.
use Rattle.std.specs.Prelude.{◌≡◌, ◌≤◌, ◌<◌, ◌+◌, ◌-◌, ◌*◌, ◌^◌, ◌==◌, ◌&&◌, ◌||◌, ◌↔◌, ℕ, Bool, false, ⊤}
use Rattle.std.specs.Prelude.{List, [], ◌∷◌, length, min, position, slice_index, slice_index_or, All, IsTrue}
use Rattle.std.specs.Prelude.{Some, None, if◌then◌else◌}
use Rattle.std.specs.List.{list_any}
use Rattle.hsp_text.specs.declared.limits.TheConstants.{GREATEST_COST}
use Rattle.hsp_instance.specs.Instance.{Row}
use Rattle.hsp_check.specs.ArcFlows.{flag_at}
use Rattle.hsp_prices.specs.Rows.{Service}
use Rattle.hsp_price_text.specs.Claim.{Best, Class}
use Rattle.hsp_prices.specs.Least.{is_of, least_of}
use Rattle.hsp_prices.specs.Sums.{asked_of, cost_in_all, load_at}
use Rattle.hsp_prices.specs.Verdict.{IsPlaced}
use Rattle.hsp_price_check.specs.declared.sums.PassSums.{PassSums}
use Rattle.hsp_price_check.specs.declared.sums.RowPlace.{RowPlace}
use Rattle.hsp_price_check.specs.declared.sums.RowPlace.TheVariants.{Nowhere, Over, OfClass, Unlisted}

-- a sum as a pass keeps it: at most 2^128 - 1
abbrev pub capped : ℕ → ℕ
capped n = min n (2 ^ 128 - 1)

-- ---- one row more

-- a count is added to the sum at a place, and the others stay
pub record IsAddedTo (old : List ℕ) (place count : ℕ) (new : List ℕ) : Type 0 where
  pub many : length new ≡ length old
  pub each : (k : ℕ) → k < length old
      → slice_index new k ≡ (if place == k then capped (slice_index old k + count) else slice_index old k)

-- the flag at a place is set, and the others stay
pub record IsSetAt (old : List Bool) (place : ℕ) (new : List Bool) : Type 0 where
  pub many : length new ≡ length old
  pub each : (k : ℕ) → k < length old → flag_at new k ≡ (place == k || flag_at old k)

abbrev pub load_with : List ℕ → RowPlace → ℕ → List ℕ → Type 0
load_with old (Over arc) count new = IsAddedTo old arc.server count new
load_with old place count new = new ≡ old

abbrev pub cost_with : ℕ → RowPlace → ℕ → ℕ
cost_with old (Over arc) count = capped (old + arc.cost * count)
cost_with old place count = old

-- what a row costs at its place
abbrev pub spent : RowPlace → ℕ → ℕ
spent (Over arc) count = arc.cost * count
spent place count = 0

abbrev pub asked_with : List ℕ → RowPlace → ℕ → List ℕ → Type 0
asked_with old (OfClass class) count new = IsAddedTo old class count new
asked_with old place count new = new ≡ old

abbrev pub seen_with : List Bool → RowPlace → List Bool → Type 0
seen_with old (OfClass class) new = IsSetAt old class new
seen_with old place new = new ≡ old

abbrev pub placed_with : Bool → RowPlace → ℕ → Bool
placed_with old Nowhere count = old && count == 0
placed_with old Unlisted count = false
placed_with old place count = old

-- a row with its count is added at its place
pub record IsAdded (old : PassSums) (place : RowPlace) (count : ℕ) (new : PassSums) : Type 0 where
  pub loads : load_with old.loads.items place count new.loads.items
  pub cost : new.cost ≡ cost_with old.cost place count
  pub asked : asked_with old.asked.items place count new.asked.items
  pub seen : seen_with old.seen.items place new.seen.items
  pub placed : new.placed ≡ placed_with old.placed place count

-- the place is among those that are counted
abbrev pub IsInside : PassSums → RowPlace → Type 0
IsInside sums Nowhere = ⊤
IsInside sums (Over arc) = (arc.server < length sums.loads.items) × (arc.cost ≤ GREATEST_COST)
IsInside sums (OfClass class) = (class < length sums.asked.items) × (class < length sums.seen.items)
IsInside sums Unlisted = ⊤

-- ---- all rows

-- what stands past the end of the classes
abbrev pub no_class : Class
no_class = record { region = []; servers = []; amounts = [] }

abbrev pub class_at : Best → ℕ → Class
class_at plan k = slice_index_or plan.classes k no_class

-- where a row goes by a plan
abbrev pub IsPlaceOf : Service → Best → Row → RowPlace → Type 0
IsPlaceOf at plan row Nowhere = least_of at plan row ≡ []
IsPlaceOf at plan row (Over arc) = least_of at plan row ≡ arc ∷ []
IsPlaceOf at plan row (OfClass class) =
    (2 ≤ length (least_of at plan row))
    × (position (λ class. is_of at plan class row) plan.classes ≡ Some class)
IsPlaceOf at plan row Unlisted =
    (2 ≤ length (least_of at plan row)) × (position (λ class. is_of at plan class row) plan.classes ≡ None)

-- the sums are those of the rows and of the classes
pub record AreSums (at : Service) (plan : Best) (rows : List Row) (sums : PassSums) : Type 0 where
  pub loads_many : length sums.loads.items ≡ length at.servers
  pub loads : (j : ℕ) → j < length at.servers → slice_index sums.loads.items j ≡ capped (load_at at plan rows j)
  pub cost : sums.cost ≡ capped (cost_in_all at plan rows)
  pub asked_many : length sums.asked.items ≡ length plan.classes
  pub asked : (k : ℕ) → k < length plan.classes
      → slice_index sums.asked.items k ≡ capped (asked_of at plan rows (class_at plan k))
  pub seen_many : length sums.seen.items ≡ length plan.classes
  pub seen : (k : ℕ) → k < length plan.classes
      → flag_at sums.seen.items k ≡ list_any (λ row. is_of at plan (class_at plan k) row) rows
  pub placed : IsTrue sums.placed ↔ All (λ row. IsPlaced at plan row (least_of at plan row)) rows

-- the loads are what servers take by a plan
pub record AreLoadsOf (at : Service) (plan : Best) (rows : List Row) (loads : List ℕ) : Type 0 where
  pub many : length loads ≡ length at.servers
  pub each : (j : ℕ) → j < length at.servers → slice_index loads j ≡ capped (load_at at plan rows j)
