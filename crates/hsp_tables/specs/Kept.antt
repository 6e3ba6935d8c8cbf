-- The rows without fault that are kept while the records of a table are looked at.
use Rattle.std.specs.Prelude.{◌≡◌, ◌≤◌, ℕ, List, length}
use Rattle.hsp_tables.specs.Table.{Table, regions_of}

-- the regions that are kept are those of the rows, and no more than there may be
pub record IsKept {Row : Type 0} (table : Table Row) (rows : List Row) (regions : List (List ℕ)) : Type 0 where
  pub regions_are : regions ≡ regions_of table rows
  pub few : length regions ≤ table.most_regions
