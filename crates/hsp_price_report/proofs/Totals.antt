-- The regions of rows have each row and each class between them once.
use Rattle.std.proofs.Common.{◌≡◌, ◌∙◌, ◌+◌, ℕ, Bool, true, false, List, [], ◌∷◌, All, ap₂, get_or, refl, sym}
use Rattle.std.specs.List.{list_any}
use Rattle.std.specs.Str.{bytes_eq}
use Rattle.std.proofs.lemmas.Bool.{and_parts}
use Rattle.std.proofs.lemmas.List.Elements.{All-head, All-tail}
use Rattle.std.proofs.lemmas.Slice.Eq.{bytes_eq-Decides}
use Rattle.hsp_instance.specs.Instance.{Row, regions_of}
use Rattle.hsp_prices.specs.Rows.{Service}
use Rattle.hsp_price_text.specs.Claim.{Best, Class}
use Rattle.hsp_prices.specs.Least.{is_of}
use Rattle.hsp_prices.specs.Sums.{class_cost, row_cost}
use Rattle.hsp_prices.specs.declared.verdict.PriceReason.TheVariants.{Cost, NotLeast}
use Rattle.hsp_price_check.specs.Regions.{classes_sum, rows_sum}
use Rattle.hsp_report.proofs.RegionTotals.{among, between, regions_once, row_there}
use Rattle.hsp_transport.proofs.Summing.{sum_by_add}
use Rattle.hsp_price_report.specs.RegionTotals.{CostsAddUp, DemandsAddUp}

-- the demands of all regions add up to that of all rows
pub demands_add_up : DemandsAddUp
demands_add_up rows =
    between (regions_of rows) (λ (row : Row). row.region) (λ row. row.count) rows (regions_once rows)
    (λ i d l. row_there rows i d l)

-- a class that has a row has its region among names, where these have that of each row
class_there : (names : List (List ℕ)) (at : Service) (plan : Best) (class : Class) (rows : List Row)
    → All (λ (row : Row). among row.region names ≡ true) rows → list_any (λ row. is_of at plan class row) rows ≡ true
    → among class.region names ≡ true
class_there names at plan class [] all e = absurd (cc (e))
class_there names at plan class (row ∷ rows) all e =
    here (is_of at plan class row) refl e
    (class_there names at plan class rows (All-tail (λ (other : Row). among other.region names ≡ true) row rows all))
  where
    here : (t : Bool) → is_of at plan class row ≡ t
        → list_any (λ other. is_of at plan class other) (row ∷ rows) ≡ true
        → (list_any (λ other. is_of at plan class other) rows ≡ true → among class.region names ≡ true)
        → among class.region names ≡ true
    here true is some later =
        let same : class.region ≡ row.region =
        (bytes_eq-Decides class.region row.region).0 (and_parts (bytes_eq class.region row.region) _ is).0 in
        rw same (All-head (λ (other : Row). among other.region names ≡ true) row rows all)
    here false is some later = later (rw is at some)

-- the costs of all regions add up to that of the plan
pub costs_add_up : CostsAddUp
costs_add_up at plan rows valid =
    let names = regions_of rows in
    let once = regions_once rows in
    let there : All (λ (row : Row). among row.region names ≡ true) rows = λ i d l. row_there rows i d l in
    sum_by_add (rows_sum (row_cost at plan) rows) (classes_sum at plan.classes) names
    ∙ ap₂ (λ a b. a + b) (between names (λ (row : Row). row.region) (row_cost at plan) rows once there)
    (between names (λ (class : Class). class.region) (class_cost at) plan.classes once
    (λ i d l. class_there names at plan (get_or plan.classes i d) rows there (valid NotLeast i d l)))
    ∙ sym (valid Cost)
