use Rattle.std.proofs.Common.{◌≡◌, ◌≤◌, ℕ, All, List, length, take}
use Rattle.hsp_instance.specs.declared.arc.Arc.{Arc}
use Rattle.hsp_prices.specs.KeptRows.{KeptRow, kept_in}
use Rattle.hsp_price_plan.specs.Grouping.{AreArcsBy, IsGrouping, asked_in, demand_of}
use Rattle.hsp_price_plan.proofs.row_groups.groups_of.Given as goal

abbrev pub invariant-loop-row : goal.invariant-loop-row
invariant-loop-row l = record {
  grouped : (arc_by : List ℕ → ℕ → Arc)
      → All (λ (row : KeptRow). AreArcsBy arc_by row.region (kept_in row)) l.rows.rows
      → IsGrouping arc_by (take l.row l.rows.rows) l.table;
  demand : demand_of l.table ≡ asked_in (take l.row l.rows.rows);
  few : length l.table ≤ l.row;
}
