-- The reading of a table and its relation: the records are those of the header and the rows, or have a first fault.
use Rattle.std.proofs.Common.{◌≡◌, ◌∙◌, ◌⊎◌, ◌↔◌, ◌+◌, inl, inr, ℕ, List, map, [], ◌∷◌, ◌++◌, Ok, Err, refl, sym, ap}
use Rattle.std.proofs.Common.{arith}
use Rattle.std.proofs.lemmas.Bool.{cases_Bool}
use Rattle.std.specs.Cmp.{IsEquivalence}
use Rattle.std.specs.List.{AllByRecursion}
use Rattle.hsp_csv.specs.Header.{same_fields}
use Rattle.hsp_csv.specs.Records.{Fields}
use Rattle.hsp_csv.proofs.SameFields.{are_same_fields, is_other, same_fields_are}
use Rattle.hsp_tables.specs.declared.fault.TableFault.{TableFault}
use Rattle.hsp_tables.specs.declared.fault.TableFault.TheVariants.{Header}
use Rattle.hsp_tables.specs.InTurn.{rows_after}
use Rattle.hsp_tables.specs.Table.{AreRows, IsRowFault, IsTable, IsTableFault, KeepsFirstFault, LacksHeader}
use Rattle.hsp_tables.specs.Table.{ReadsAsItsRelation, SpellRows, Table, row_after, table_of}
use Rattle.hsp_tables.proofs.TableLaws.{body_reads}
use Rattle.hsp_tables.proofs.TurnLaws.{fault_place, rows_in_parts}

-- the first record is the header, and the others are read in turn; or there is no table
by_header : {Row : Type 0} (table : Table Row) (records : List Fields)
    → ((body : List Fields) × (records ≡ table.header ∷ body)
    × (table_of table records ≡ rows_after (row_after table) [] body))
    ⊎ (LacksHeader table records × (table_of table records ≡ Err Header))
by_header table [] = inr (λ body same. cc (same), refl)
by_header table (first ∷ body) =
    elim (cases_Bool (same_fields first table.header)) [
      | inl is ↦ inl (body, ap (λ (t : Fields). t ∷ body) (same_fields_are first table.header is), rw is refl)
      | inr other ↦
          inr (
            λ more same. is_other first table.header other (let head : first ≡ table.header = cc (same) in head),
            rw other refl,
          )
    ]

-- behind the header
headed : {Row : Type 0} (table : Table Row) (records body : List Fields) → records ≡ table.header ∷ body
    → table_of table records ≡ rows_after (row_after table) [] body
headed table records body is = rw (is, are_same_fields table.header) refl

module _ {Row : Type 0} (table : Table Row) (keys : IsEquivalence table.same_key) where
  -- a table is read as its rows
  body_of : (records : List Fields) (rows : List Row) (is : IsTable table records rows)
      → rows_after (row_after table) [] is.body ≡ Ok rows
  body_of records rows is =
      (body_reads table keys is.body rows).1
      (record { spelled = is.spelled; few = is.few; apart = is.apart }, is.regions)

  -- what is read is a table
  read_is_table : (records : List Fields) (rows : List Row) → table_of table records ≡ Ok rows
      → IsTable table records rows
  read_is_table records rows e =
      elim (by_header table records) [
        | inl (body, is, reads) ↦
            let parts = (body_reads table keys body rows).0 (sym reads ∙ e) in
            record {
              body = body;
              headed = is;
              spelled = parts.0.spelled;
              few = parts.0.few;
              apart = parts.0.apart;
              regions = parts.1;
            }
        | inr (lacks, none) ↦ cc (none, e)
      ]

  -- a fault after records that are a table is the first one
  row_fault_is_read : (records : List Fields) (fault : TableFault) → IsRowFault table records fault
      → table_of table records ≡ Err fault
  row_fault_is_read records fault is =
      let good = is.good in
      let place : records ≡ table.header ∷ (good.body ++ is.bad ∷ is.after) =
      is.place ∙ ap (λ (t : List Fields). t ++ is.bad ∷ is.after) good.headed in
      headed table records _ place ∙ rows_in_parts (row_after table) [] good.body (is.bad ∷ is.after)
      ∙ rw (body_of is.before is.rows good, is.refused) refl

  -- what is refused has a first fault
  read_fault_is_first : (records : List Fields) (fault : TableFault) → table_of table records ≡ Err fault
      → IsTableFault table records fault
  read_fault_is_first records fault e =
      elim (by_header table records) [
        | inl (body, is, reads) ↦
            let p = fault_place (row_after table) [] body fault (sym reads ∙ e) in
            inr (record {
              before = table.header ∷ p.before;
              bad = p.bad;
              after = p.after;
              rows = p.rows;
              place = is ∙ ap (λ (t : List Fields). table.header ∷ t) p.place;
              good =
                  read_is_table (table.header ∷ p.before) p.rows
                  (headed table (table.header ∷ p.before) p.before refl ∙ p.good);
              refused = p.refused;
            })
        | inr (lacks, none) ↦ inl (lacks, cc (none, e))
      ]

  -- the fault of the relation is the one that is read
  fault_is_read : (records : List Fields) (fault : TableFault) → IsTableFault table records fault
      → table_of table records ≡ Err fault
  fault_is_read records fault (inl (lacks, is)) =
      elim (by_header table records) [
        | inl (body, headed, reads) ↦ absurd (lacks body headed)
        | inr (none, reads) ↦ rw is reads
      ]
  fault_is_read records fault (inr is) = row_fault_is_read records fault is

  -- the reading of a table is its relation
  pub reads_as_its_relation : ReadsAsItsRelation table
  reads_as_its_relation = record {
    rows =
        λ records rows.
        (read_is_table records rows, λ is. headed table records is.body is.headed ∙ body_of records rows is);
    fault = λ records fault. (read_fault_is_first records fault, fault_is_read records fault);
  }

  -- rows by their fields, where the record of a row is its fields
  module _ (fields : Row → Fields) (Is : Row → Type 0)
      (reads : (n : ℕ) (one : Fields) (row : Row) → (table.row_in n one ≡ Ok row) ↔ ((one ≡ fields row) × Is row)) where
    -- rows that records spell are those with their fields, each within its limits
    are_spelled : (n : ℕ) (body : List Fields) (rows : List Row) → SpellRows table n body rows
        → (body ≡ map fields rows) × AllByRecursion Is rows
    are_spelled n [] [] spells = (refl, tt)
    are_spelled n [] (row ∷ rows) spells = absurd spells
    are_spelled n (one ∷ body) [] spells = absurd spells
    are_spelled n (one ∷ body) (row ∷ rows) spells =
        let first = (reads n one row).0 spells.0 in
        let later = are_spelled (n + 1) body rows spells.1 in
        (cc (first.0, later.0), (first.1, later.1))

    -- the fields of rows spell them
    spell : (n : ℕ) (rows : List Row) → AllByRecursion Is rows → SpellRows table n (map fields rows) rows
    spell n [] all = tt
    spell n (row ∷ rows) all = ((reads n (fields row) row).1 (refl, all.0), spell (n + 1) rows all.1)

    -- the records of a table are the header and the fields of its rows
    pub reads_rows : (records : List Fields) (rows : List Row)
        → (table_of table records ≡ Ok rows) ↔ ((records ≡ table.header ∷ map fields rows) × AreRows table Is rows)
    reads_rows records rows = (
      λ e.
          let is = read_is_table records rows e in
          let are = are_spelled 0 is.body rows is.spelled in (
            is.headed ∙ ap (λ t. table.header ∷ t) are.0,
            record { keyed = record { few = is.few; each = are.1; apart = is.apart }; regions = is.regions },
          ),
      λ (is, are). headed table records (map fields rows) is
          ∙ (body_reads table keys (map fields rows) rows).1 (
            record { spelled = spell 0 rows are.keyed.each; few = are.keyed.few; apart = are.keyed.apart },
            are.regions,
          ),
    )

-- a first fault stays, whatever records follow
pub keeps_first_fault : {Row : Type 0} (table : Table Row) → KeepsFirstFault table
keeps_first_fault table first body more fault e = grind (arith, rows_in_parts (row_after table) [] body more)
