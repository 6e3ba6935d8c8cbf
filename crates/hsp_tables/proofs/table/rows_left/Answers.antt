use Rattle.std.proofs.Common.{arith, refl, sym}
use Rattle.hsp_tables.proofs.TableLaws.{regions_of-none}
use Rattle.hsp_tables.proofs.table.rows_left.Goals as goal

pub rows-init : goal.rows-init
rows-init g c = record {
  reading = c.requires.reading;
  known = c.requires.known;
  regions = rw (c.with_hasher-rows.ensures.empty, c.new-regions.ensures) (sym (regions_of-none g.K.Kind.table));
  few = rw c.new-regions.ensures (omega arith);
  numbered = rw c.with_hasher-rows.ensures.empty (omega arith);
  so_far = rw c.with_hasher-rows.ensures.empty refl;
}
