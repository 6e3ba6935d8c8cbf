-- A row that is added to the sums of regions, and the sums before any row came.
use Rattle.std.proofs.Common.{◌≡◌, ◌∙◌, ◌≤◌, ◌+◌, ℕ, List, [], ◌∷◌, ◌++◌, Some, length, refl, ap, sym, arith}
use Rattle.std.specs.List.{list_any, slice_get}
use Rattle.std.specs.Str.{bytes_eq}
use Rattle.std.specs.Prelude.{◌==◌, if◌then◌else◌}
use Rattle.std.proofs.lemmas.List.{get_or_past}
use Rattle.hsp_instance.specs.Instance.{Row, regions_of}
use Rattle.hsp_price_check.proofs.KindCounts.{region_added}
use Rattle.hsp_price_check.specs.Passed.{capped}
use Rattle.hsp_price_check.specs.Regions.{AreRegionSums, IsRegionAdded, no_sums, sums_at}
use Rattle.hsp_price_check.specs.declared.regions.RegionSums.{RegionSums}
use Rattle.hsp_price_check.proofs.RegionPlaces.{one_more, places_many}

-- there are no sums before any row came
pub no_regions : (cost_of : Row → ℕ) (sums : List RegionSums) → sums ≡ [] → AreRegionSums cost_of [] sums
no_regions cost_of sums none = record {
  many = ap (λ list. length list) none;
  demand = λ k region at. absurd (cc (at));
  cost = λ k region at. absurd (cc (at));
}

-- past the regions there are no sums
none_past : (sums : List RegionSums) (n k : ℕ) → length sums ≡ n → n ≤ k → sums_at sums k ≡ no_sums
none_past sums n k many past = get_or_past sums k no_sums (omega (arith, many, past))

-- the sums with a row are those of the rows with it
pub regions_more : (cost_of : Row → ℕ) (rows : List Row) (row : Row) (number spent : ℕ) (old new : List RegionSums)
    → AreRegionSums cost_of rows old → slice_get (regions_of (rows ++ row ∷ [])) number ≡ Some row.region
    → spent ≡ cost_of row → IsRegionAdded old number row.count spent new
    → AreRegionSums cost_of (rows ++ row ∷ []) new
regions_more cost_of rows row number spent old new are placed is added =
    let names = regions_of rows in
    let here = sym (ap (λ list. slice_get list number) (region_added rows row)) ∙ placed in
    record {
      many =
          added.many ∙ ap (λ n. if number == n then n + 1 else n) are.many
          ∙ sym (places_many names row.region number (list_any (bytes_eq row.region) names) refl here)
          ∙ sym (ap (λ list. length list) (region_added rows row));
      demand =
          one_more (λ row. row.count) rows row number (λ k. (sums_at old k).demand) (λ k. (sums_at new k).demand) placed
          are.demand (λ k past. ap (λ s. s.demand) (none_past old (length names) k are.many past)) added.demand;
      cost =
          one_more cost_of rows row number (λ k. (sums_at old k).cost) (λ k. (sums_at new k).cost) placed are.cost
          (λ k past. ap (λ s. s.cost) (none_past old (length names) k are.many past))
          (λ k.
          added.cost k
          ∙ ap (λ n. if number == k then capped ((sums_at old k).cost + n) else (sums_at old k).cost) is);
    }
