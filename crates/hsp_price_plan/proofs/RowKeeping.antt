-- One row, of which more arcs are kept.
use Rattle.std.proofs.Common.{◌≡◌, ◌≤◌, ◌<◌, ◌+◌, ◌-◌, ◌^◌, ◌∙◌, ℕ, Bool, true, List, length, map, min}
use Rattle.std.proofs.Common.{ap, arith}
use Rattle.std.specs.Prelude.{nat_le, not}
use Rattle.std.specs.List.{AllByRecursion}
use Rattle.hsp_instance.specs.RowArcs.{IsWithin}
use Rattle.hsp_instance.specs.declared.arc.Arc.{Arc}
use Rattle.hsp_instance.proofs.Lists.{all_so}
use Rattle.hsp_prices.specs.Least.{is_least}
use Rattle.hsp_price_check.specs.Extras.{pay_by}
use Rattle.hsp_price_check.specs.LeastPay.{AreLow}
use Rattle.hsp_prices.specs.KeptRows.{KeptArc, KeptRow, kept_if, with_least, with_leaving}
use Rattle.hsp_price_plan.specs.Entries.{AreKept, arcs_by, bare_arcs}
use Rattle.hsp_price_plan.specs.Keeping.{IsKeptBy, is_near, least_from, with_near}
use Rattle.hsp_price_plan.specs.declared.region.SiteCost.{SiteCost}
use Rattle.hsp_price_plan.proofs.ArcEntries.{length-arcs_by}
use Rattle.hsp_price_plan.proofs.KeptArcs.{all_into}
use Rattle.hsp_price_plan.proofs.LeastTests.{kept_same, least_is, near_test}

-- what a query pays over an arc fits 64 bits
pub small_pay : (extras : List ℕ) (arc : Arc) → AreLow extras → IsWithin (length extras) arc
    → pay_by extras arc < 2 ^ 64
small_pay extras arc low within = omega (arith, low arc.server within.server, within.cost)

-- a row by its arcs
abbrev pub row_with : List ℕ → ℕ → List KeptArc → KeptRow
row_with name n arcs = record { region = name; arcs = arcs; count = n }

module _ (extras : List ℕ) (shape : List SiteCost) (old new : List ℕ) (count : ℕ) (many : length shape ≤ length old)
    (low : AreLow extras) (within : AllByRecursion (IsWithin (length extras)) (bare_arcs shape old)) where
  -- entries up to the least pay are the least arcs
  pub kept_by_least : (least : ℕ) → least ≡ least_from (pay_by extras) (2 ^ 64 - 1) (bare_arcs shape old)
      → AreKept (λ arc. nat_le (pay_by extras arc) least) (arcs_by shape old) (arcs_by shape new) count
      → IsKeptBy (with_least (pay_by extras)) shape old new count
  kept_by_least least is kept =
      let pay = pay_by extras in
      let arcs = arcs_by shape old in
      let same : map (kept_if (λ arc. nat_le (pay arc) least)) arcs
      ≡ map (kept_if (is_least pay (bare_arcs shape old))) arcs =
      kept_same (λ arc. nat_le (pay arc) least) (is_least pay (bare_arcs shape old)) arcs
      (all_so (IsWithin (length extras)) (λ arc. nat_le (pay arc) least ≡ is_least pay (bare_arcs shape old) arc)
      (bare_arcs shape old)
      (λ arc inside.
      ap (nat_le (pay arc)) is ∙ least_is pay (bare_arcs shape old) arc (small_pay extras arc low inside)) within) in
      record {
        row = λ name n. ap (row_with name n) (kept.arcs ∙ same);
        counted = kept.counted;
        few = omega (arith, kept.few, length-arcs_by shape old many);
      }

  -- entries up to the window are the near arcs
  pub kept_by_near : (window most : ℕ)
      → most ≡ min (least_from (pay_by extras) (2 ^ 64 - 1) (bare_arcs shape old) + window) (2 ^ 64 - 1)
      → AreKept (λ arc. nat_le (pay_by extras arc) most) (arcs_by shape old) (arcs_by shape new) count
      → IsKeptBy (with_near (pay_by extras) window) shape old new count
  kept_by_near window most is kept =
      let pay = pay_by extras in
      let arcs = arcs_by shape old in
      let same : map (kept_if (λ arc. nat_le (pay arc) most)) arcs
      ≡ map (kept_if (is_near pay window (bare_arcs shape old))) arcs =
      kept_same (λ arc. nat_le (pay arc) most) (is_near pay window (bare_arcs shape old)) arcs
      (all_so (IsWithin (length extras)) (λ arc. nat_le (pay arc) most ≡ is_near pay window (bare_arcs shape old) arc)
      (bare_arcs shape old)
      (λ arc inside.
      ap (nat_le (pay arc)) is ∙ near_test pay window (bare_arcs shape old) arc (small_pay extras arc low inside))
      within) in
      record {
        row = λ name n. ap (row_with name n) (kept.arcs ∙ same);
        counted = kept.counted;
        few = omega (arith, kept.few, length-arcs_by shape old many);
      }

-- entries that lead out are the leaving arcs
pub kept_by_leaving : (set : ℕ → Bool) (shape : List SiteCost) (old new : List ℕ) (count : ℕ)
    → length shape ≤ length old → all_into set (arcs_by shape old) ≡ true
    → AreKept (λ arc. not (set arc.server)) (arcs_by shape old) (arcs_by shape new) count
    → IsKeptBy (with_leaving set) shape old new count
kept_by_leaving set shape old new count many into kept =
    record {
      row = λ name n. rw into (ap (row_with name n) kept.arcs);
      counted = kept.counted;
      few = omega (arith, kept.few, length-arcs_by shape old many);
    }
