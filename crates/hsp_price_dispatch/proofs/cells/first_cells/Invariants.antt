use Rattle.std.proofs.Common.{◌≡◌, ◌≤◌, ◌<◌, ◌*◌, ℕ, length, slice_index}
use Rattle.hsp_price_dispatch.specs.Choosing.{first_cell}
use Rattle.hsp_price_dispatch.proofs.cells.first_cells.Given as goal

abbrev pub invariant-loop-class : goal.invariant-loop-class
invariant-loop-class l = record {
  many : length l.firsts.items ≡ l.class-index;
  next : l.next ≡ first_cell l.classes l.class-index;
  low : l.next ≤ l.class-index * 1024;
  each : (k : ℕ) → k < l.class-index → slice_index l.firsts.items k ≡ first_cell l.classes k;
}
