-- Tables: what their records read as, and what their rows are.
use Rattle.std.proofs.Common.{◌≡◌, ◌≤◌, ◌↔◌, ℕ, Bool, false, List, [], ◌∷◌, ◌++◌, length, map, fold, Ok, Err, nat_lt}
use Rattle.std.proofs.Common.{refl, arith}
use Rattle.std.proofs.lemmas.Bool.{ltb-false}
use Rattle.std.proofs.lemmas.Bool.Decides.{nat_tests}
use Rattle.std.proofs.lemmas.List.{length-append, map-append}
use Rattle.std.proofs.lemmas.List.Sums.{fold-append}
use Rattle.std.specs.Cmp.{IsEquivalence}
use Rattle.std.specs.Str.{bytes_eq}
use Rattle.indexmap.specs.IndexSet.{insert_key}
use Rattle.hsp_csv.specs.Header.{IsHeaded, IsHeadless}
use Rattle.hsp_csv.specs.Records.{Fields}
use Rattle.hsp_tables.specs.declared.fault.TableFault.TheVariants.{Header, RowTwice, TooManyRegions, TooManyRows}
use Rattle.hsp_tables.specs.InTurn.{Reading, SpellKeyed, keyed_after, rows_after}
use Rattle.hsp_tables.specs.Table.{Table, first_seen, regions_of, row_after, seen_with, table_of}
use Rattle.hsp_tables.proofs.KeyedReading.{reads_as_spelled}
use Rattle.hsp_tables.proofs.SeenNames.{first_seen-append}
use Rattle.hsp_tables.proofs.TurnLaws.{good_are_passed, passed_are_good, passed_are_read}

-- ---- regions

-- a further name takes none away
names_grow : (names more : List (List ℕ)) → length names ≤ length (fold (insert_key bytes_eq) names more)
names_grow names [] = omega arith
names_grow names (name ∷ more) =
    grind (arith, length-append {A = List ℕ}, names_grow (insert_key bytes_eq names name) more)

module _ {Row : Type 0} (table : Table Row) where
  -- more rows are of no fewer regions
  regions_of-grow : (a b : List Row) → length (regions_of table a) ≤ length (regions_of table (a ++ b))
  regions_of-grow a b =
      rw (
        map-append table.region_of a b,
        fold-append (insert_key bytes_eq) [] (map table.region_of a) (map table.region_of b),
      )
      (grind (arith, names_grow (first_seen (map table.region_of a)) (map table.region_of b)))

  -- the regions of rows and of a further one
  pub regions_of-append : (rows : List Row) (row : Row)
      → regions_of table (rows ++ row ∷ []) ≡ seen_with table (regions_of table rows) row
  regions_of-append rows row =
      rw (map-append table.region_of rows (row ∷ []))
      (grind (arith, first_seen-append (map table.region_of rows) (table.region_of row)))

  -- no rows are of no regions
  pub regions_of-none : regions_of table [] ≡ []
  regions_of-none = grind arith

-- ---- rows

abbrev too_many : {Row : Type 0} → Table Row → List Row → Bool
too_many table rows = nat_lt table.most_regions (length (regions_of table rows))

-- a number is not below one that is no greater
pub nat_lt-upto : (m n : ℕ) → n ≤ m → nat_lt m n ≡ false
nat_lt-upto m n upto = grind (arith, nat_tests)

module _ {Row : Type 0} (table : Table Row) (keys : IsEquivalence table.same_key) where
  abbrev keyed : Reading Fields Row
  keyed = keyed_after table.most_rows TooManyRows table.row_in table.same_key RowTwice

  -- records are read as the rows that they spell, where these are of few regions
  pub body_reads : (body : List Fields) (rows : List Row) → (rows_after (row_after table) [] body ≡ Ok rows)
      ↔ (SpellKeyed table.most_rows table.row_in table.same_key body rows
      × (length (regions_of table rows) ≤ table.most_regions))
  body_reads body rows =
      let spelled =
      reads_as_spelled Fields Row table.most_rows TooManyRows table.row_in table.same_key RowTwice keys body rows in
      let none : too_many table [] ≡ false =
      rw (regions_of-none table) (nat_lt-upto table.most_regions 0 (omega arith)) in
      let fewer = λ (a b : List Row) (e : too_many table (a ++ b) ≡ false).
      let few = ltb-false table.most_regions (length (regions_of table (a ++ b))) e in
      nat_lt-upto table.most_regions (length (regions_of table a)) (omega (arith, few, regions_of-grow table a b)) in (
        λ e. (
          spelled.0 (passed_are_read keyed (too_many table) TooManyRegions body [] rows e),
          ltb-false table.most_regions (length (regions_of table rows))
              (passed_are_good keyed (too_many table) TooManyRegions body rows none e),
        ),
        λ is.
            good_are_passed keyed (too_many table) TooManyRegions fewer body [] rows (spelled.1 is.0)
            (nat_lt-upto table.most_regions (length (regions_of table rows)) is.1),
      )

-- ---- headers

-- under the header the records are read in turn
pub table_of_headed : {Row : Type 0} (table : Table Row) (records body : List Fields)
    → IsHeaded table.header records body → table_of table records ≡ rows_after (row_after table) [] body
table_of_headed table [] body headed = absurd headed
table_of_headed table (first ∷ more) body headed = rw (headed.0, headed.1) refl

-- without the header there is no table
pub table_of_headless : {Row : Type 0} (table : Table Row) (records : List Fields) → IsHeadless table.header records
    → table_of table records ≡ Err Header
table_of_headless table [] headless = refl
table_of_headless table (first ∷ more) headless = rw headless refl
