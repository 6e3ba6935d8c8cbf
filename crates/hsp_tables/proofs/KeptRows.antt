-- Rows of a table that are kept in a map by their keys, in the order of insertion.
use Rattle.std.proofs.Common.{◌≡◌, ◌∙◌, ◌<◌, ℕ, Bool, true, false, List, [], ◌∷◌, ◌++◌, is_some, Option, None, Ok}
use Rattle.std.proofs.Common.{Err, length, map, nat_le, nat_lt, refl, sym, ap, arith}
use Rattle.std.proofs.lemmas.List.{length-map, map-append}
use Rattle.std.proofs.lemmas.Map.Made.{is_some-lookup}
use Rattle.std.specs.List.{list_any}
use Rattle.std.specs.Map.{keys_of, lookup}
use Rattle.indexmap.specs.IndexMap.{IndexMap, insert_entry}
use Rattle.indexmap.proofs.CallerLemmas.{insert_entry-new}
use Rattle.hsp_csv.specs.Records.{Fields}
use Rattle.hsp_text.proofs.Steps.{le_false}
use Rattle.hsp_tables.specs.declared.fault.TableFault.TheVariants.{RowTwice, TooManyRegions}
use Rattle.hsp_tables.specs.InTurn.{with_row}
use Rattle.hsp_tables.specs.Table.{Table, regions_of, row_at, seen_with}
use Rattle.hsp_tables.proofs.TableLaws.{regions_of-append}

-- what is not there is none
none_is : {A : Type 0} (o : Option A) → is_some o ≡ false → o ≡ None
none_is o e = grind arith

module _ {K Row S : Type 0} (table : Table Row) (entry : K × ℕ → Row) (eq : K → K → Bool)
    (same : (a b : K × ℕ) → table.same_key (entry a) (entry b) ≡ eq a.0 b.0)
    (m : IndexMap K ℕ S) (key : K) (value : ℕ) where
  abbrev e : K × ℕ
  e = (key, value)

  abbrev rows : List Row
  rows = map entry m.entries

  -- a record after the rows that are kept: it spells the row of a key and a number, for which there is room
  pub record Spells (number : ℕ) (fields : Fields) (there : Bool) : Type 0 where
    pub room : length m.entries < table.most_rows
    pub spells : table.row_in number fields ≡ Ok (entry e)
    pub looked : there ≡ is_some (lookup (eq key) m.entries)

  -- a key is among those of the rows just where its row has the key of one of them
  among : (es : List (K × ℕ)) → list_any (table.same_key (entry e)) (map entry es) ≡ list_any (eq key) (keys_of es)
  among [] = refl
  among (other ∷ es) = rw (same e other, among es) refl

  -- the regions with that of the row
  abbrev seen_then : List (List ℕ)
  seen_then = seen_with table (regions_of table rows) (entry e)

  module _ (number : ℕ) (fields : Fields) (there : Bool) (is : Spells number fields there) where
    -- there is room, the record is read, and its key is looked for
    first_tests : (nat_le table.most_rows (length rows) ≡ false) × (table.row_in number fields ≡ Ok (entry e))
        × (list_any (table.same_key (entry e)) rows ≡ there)
    first_tests = (
      rw (length-map m.entries entry) (le_false table.most_rows (length m.entries) is.room),
      is.spells,
      among m.entries ∙ sym (is_some-lookup (eq key) m.entries) ∙ sym is.looked,
    )

    -- its key is an earlier one's
    pub kept_twice : there ≡ true → with_row (row_at table number) rows fields ≡ Err (RowTwice number)
    kept_twice known = rw (first_tests.0, first_tests.1, first_tests.2, known) refl

    module _ (new : there ≡ false) where
      -- its region is one too many
      pub kept_too_many : nat_lt table.most_regions (length seen_then) ≡ true
          → with_row (row_at table number) rows fields ≡ Err TooManyRegions
      kept_too_many many =
          rw (first_tests.0, first_tests.1, first_tests.2, new, regions_of-append table rows (entry e), many) refl

      -- or it is the next row
      module _ (entries : List (K × ℕ)) (inserted : entries ≡ insert_entry eq m.entries key value) where
        -- the row is put behind the others
        next : map entry entries ≡ rows ++ entry e ∷ []
        next =
            ap (map entry) (inserted ∙ insert_entry-new eq m key value (none_is _ (sym is.looked ∙ new)))
            ∙ map-append entry m.entries (e ∷ [])

        -- the rows with it are those that are read
        pub kept_next : nat_lt table.most_regions (length seen_then) ≡ false
            → with_row (row_at table number) rows fields ≡ Ok (map entry entries)
        kept_next few =
            rw (
              next,
              first_tests.0,
              first_tests.1,
              first_tests.2,
              new,
              regions_of-append table rows (entry e),
              few,
            ) refl

        -- the regions with its own are those of the rows with it
        pub kept_regions : seen_then ≡ regions_of table (map entry entries)
        kept_regions = rw next (sym (regions_of-append table rows (entry e)))
