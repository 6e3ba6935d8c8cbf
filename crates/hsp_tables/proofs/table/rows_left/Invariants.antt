use Rattle.std.proofs.Common.{◌≡◌, ◌<◌, ◌≤◌, ◌^◌, [], length, map}
use Rattle.hsp_csv.specs.Records.{IsKnown, IsReading, records_left}
use Rattle.hsp_tables.specs.Fields.{lent}
use Rattle.hsp_tables.specs.InTurn.{rows_after}
use Rattle.hsp_tables.specs.Table.{regions_of, row_after}
use Rattle.hsp_tables.proofs.table.rows_left.Given as goal

abbrev pub invariant-rows : goal.invariant-rows
invariant-rows g l =
    let table = g.K.Kind.table in
    let rows = map g.K.Kind.entry l.rows.entries in
    record {
      reading : IsReading l.records;
      known : IsKnown lent l.records;
      regions : l.regions ≡ regions_of table rows;
      few : length l.regions ≤ table.most_regions;
      numbered : length l.rows.entries < 2 ^ 32;
      so_far : rows_after (row_after table) rows (records_left lent l.records)
          ≡ rows_after (row_after table) [] (records_left lent l.fn.records);
    }

abbrev pub decreases-rows : goal.decreases-rows
decreases-rows g l = length (records_left lent l.records)
