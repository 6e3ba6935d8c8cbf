use Rattle.std.proofs.Common.{◌≡◌}
use Rattle.hsp_price_plan.specs.Keeping.{kept_by}
use Rattle.hsp_price_plan.proofs.Passing.{ArePassed}
use Rattle.hsp_price_plan.proofs.rows.KeptRows.keep.Given as goal

abbrev pub invariant-loop-row : goal.invariant-loop-row
invariant-loop-row l =
    let old = l.initial.self-inside in
    let now = l.self-inside in
    record {
      sites : now.sites ≡ old.sites;
      regions : now.regions ≡ old.regions;
      numbers : now.row_regions ≡ old.row_regions;
      counts : now.counts ≡ old.counts;
      passed :
          ArePassed (kept_by l.which) old.sites old.regions.items old.row_regions.items old.counts.items
          old.places.items now.places.items l.row l.kept;
    }
