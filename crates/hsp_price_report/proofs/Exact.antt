-- What a pass keeps of the sums of a valid plan is exact.
use Rattle.std.proofs.Common.{◌≡◌, ◌≤◌, ◌<◌, ◌*◌, ℕ, Bool, true, false, List, length, sum_by, arith}
use Rattle.std.proofs.Common.{leb-true, if◌then◌else◌}
use Rattle.std.specs.Str.{bytes_eq}
use Rattle.std.proofs.lemmas.Bool.{and_parts}
use Rattle.std.proofs.lemmas.List.Sums.{sum_by-le-sum_by}
use Rattle.hsp_instance.specs.Instance.{Row}
use Rattle.hsp_prices.specs.Rows.{Service}
use Rattle.hsp_price_text.specs.Claim.{Best, is_best}
use Rattle.hsp_price_text.specs.declared.certificate.PriceCertificate.TheVariants.{Plan}
use Rattle.hsp_prices.specs.Shown.{IsService}
use Rattle.hsp_prices.specs.Sums.{class_cost, load_at, row_cost}
use Rattle.hsp_prices.specs.Verdict.{IsVerdict}
use Rattle.hsp_prices.specs.declared.verdict.PriceReason.TheVariants.{Cost, Load}
use Rattle.hsp_prices.specs.declared.verdict.PriceVerdict.TheVariants.{Yes}
use Rattle.hsp_prices.proofs.Bounds.{capacity_low, demand_low, none_or}
use Rattle.hsp_price_check.specs.Passed.{capped}
use Rattle.hsp_price_check.specs.Regions.{cost_in, region_cost, region_demand}
use Rattle.hsp_price_check.proofs.Capping.{kept_within}

module _ (at : Service) (plan : Best) (rows : List Row) (is : IsService at) (fits : is_best plan ≡ true)
    (valid : IsVerdict at rows (Plan plan) Yes) where
  -- the load of a server
  pub load_exact : (j : ℕ) → j < length at.servers → capped (load_at at plan rows j) ≡ load_at at plan rows j
  load_exact j l =
      let low = capacity_low at.sites (length at.hosts) at.servers is.servers.each j in
      kept_within (load_at at plan rows j) 1000000000 (omega arith) (omega (arith, low, (valid Load).0 j l))

  -- what all rows ask for
  pub total_exact : capped (sum_by (λ (row : Row). row.count) rows) ≡ sum_by (λ (row : Row). row.count) rows
  total_exact =
      kept_within (sum_by (λ (row : Row). row.count) rows) (2048 * 1000000000000) (omega arith)
      (demand_low at rows plan is fits valid)

  -- what a region asks for
  pub demand_exact : (region : List ℕ) → capped (region_demand rows region) ≡ region_demand rows region
  demand_exact region =
      kept_within (region_demand rows region) (2048 * 1000000000000) (omega arith)
      (omega (
        arith,
        demand_low at rows plan is fits valid,
        sum_by-le-sum_by (λ (row : Row). if bytes_eq region row.region then row.count else 0) (λ row. row.count) rows
            (λ row. none_or (bytes_eq region row.region) row.count),
      ))

  -- what it costs
  pub cost_exact : (region : List ℕ) → capped (region_cost at plan rows region) ≡ region_cost at plan rows region
  cost_exact region =
      kept_within (region_cost at plan rows region) 10000000000000000 (omega arith)
      (omega (
        arith,
        leb-true plan.cost 10000000000000000 (and_parts _ _ fits).0,
        valid Cost,
        sum_by-le-sum_by (λ (row : Row). if bytes_eq region row.region then row_cost at plan row else 0)
            (row_cost at plan) rows (λ row. none_or (bytes_eq region row.region) (row_cost at plan row)),
        sum_by-le-sum_by (cost_in at region) (class_cost at) plan.classes
            (λ class. none_or (bytes_eq region class.region) (class_cost at class)),
      ))
