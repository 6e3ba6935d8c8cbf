-- The list of the faulty rows of a table begins with the fault by which the table is refused.
use Rattle.std.proofs.Common.{◌≡◌, ◌∙◌, ◌≤◌, ◌<◌, ◌+◌, ◌-◌, ◌^◌, ℕ, Bool, true, false, List, [], ◌∷◌, ◌++◌, length}
use Rattle.std.proofs.Common.{Some, Ok, Err}
use Rattle.std.proofs.Common.{Result, cond, refl, arith, is_some, ◌&&◌}
use Rattle.std.proofs.lemmas.Bool.Decides.{nat_tests}
use Rattle.std.proofs.lemmas.List.{length-append}
use Rattle.hsp_csv.specs.Found.{first_fault, listed}
use Rattle.hsp_csv.specs.Header.{same_fields}
use Rattle.hsp_csv.specs.Places.{Placed, fields_in}
use Rattle.hsp_csv.specs.Records.{Fields}
use Rattle.hsp_csv.specs.declared.found.Found.{Found}
use Rattle.hsp_text.specs.Answers.{◌>>=◌}
use Rattle.hsp_tables.specs.declared.fault.TableFault.{TableFault}
use Rattle.hsp_tables.specs.declared.fault.TableFault.TheVariants as fault_of
use Rattle.hsp_tables.specs.declared.fault.TableFault.TheVariants.{Header, TooManyRows}
use Rattle.hsp_tables.specs.Capacities.{capacity_of, capacity_table, is_capacity_field}
use Rattle.hsp_tables.specs.Costs.{cost_of, cost_table, is_cost_field, most_cost_rows}
use Rattle.hsp_tables.specs.declared.limits.Limits.{Limits}
use Rattle.hsp_tables.specs.declared.limits.Limits.TheVariants.{Logs, Tables}
use Rattle.hsp_tables.specs.Demand.{demand_of, demand_table, is_demand_field}
use Rattle.hsp_tables.specs.Faulty.{BeginsWithTheFault, HasItsField, checked_as, fault_in, faulty_rows, found_header}
use Rattle.hsp_tables.specs.Faulty.{next_row}
use Rattle.hsp_tables.specs.Faulty.{first_bad, is_of_field, with_good}
use Rattle.hsp_tables.specs.Fields.{of_three}
use Rattle.hsp_tables.specs.InTurn.{rows_after}
use Rattle.hsp_tables.specs.Table.{Table, row_after, row_at}

-- a record with a fault begins the list with it
first_listed : {Row : Type 0} (table : Table Row) (number : ℕ) (one : Placed) (fault : TableFault)
    (more : List (Found TableFault)) → first_fault (listed (checked_as table number one (Err fault)) more) ≡ Some fault
first_listed table number one TooManyRows more = refl
first_listed table number one fault more = refl

module _ {Row : Type 0} (table : Table Row) (few : table.most_rows ≤ 2 ^ 32 - 1) where
  -- a row that is read is within the limit
  is_within : (number : ℕ) (earlier : List Row) (fields : Fields) (row : Row)
      → row_at table number earlier fields ≡ Ok row
      → length earlier < table.most_rows
  is_within number earlier fields row e = grind (arith, nat_tests)

  -- the first of the faulty rows is the fault by which reading the rows ends
  rows_begin : (earlier : List Row) (body : List Placed)
      → first_fault (faulty_rows table (length earlier) earlier body)
      ≡ fault_in (rows_after (row_after table) earlier (fields_in body))
  unfolding faulty_rows
  rows_begin earlier [] = refl
  rows_begin earlier (one ∷ more) =
      by_read (row_at table (length earlier) earlier one.fields) refl (λ rows. rows_begin rows more)
    where
      by_read : (read : Result Row TableFault) → row_at table (length earlier) earlier one.fields ≡ read
          → ((rows : List Row)
          → first_fault (faulty_rows table (length rows) rows more)
          ≡ fault_in (rows_after (row_after table) rows (fields_in more)))
          → first_fault
          (listed (checked_as table (length earlier) one read)
          (faulty_rows table (next_row (length earlier)) (with_good earlier read) more))
          ≡ fault_in
          ((read >>= λ row. Ok (earlier ++ row ∷ [])) >>= λ rows.
          rows_after (row_after table) rows (fields_in more))
      by_read (Ok row) is later =
          let room : length earlier < table.most_rows = is_within (length earlier) earlier one.fields row is in
          let next : next_row (length earlier) ≡ length (earlier ++ row ∷ []) =
          omega (arith, length-append earlier (row ∷ []), room, few) in
          rw next (later (earlier ++ row ∷ []))
      by_read (Err fault) is later = first_listed table (length earlier) one fault _

  -- the list of faulty rows begins with the fault of the table
  begins_with_fault : BeginsWithTheFault table
  begins_with_fault [] = refl
  begins_with_fault (first ∷ body) = by_header (same_fields first.fields table.header)
    where
      by_header : (headed : Bool) → first_fault (cond headed (faulty_rows table 0 [] body) (found_header ∷ []))
          ≡ fault_in (cond headed (rows_after (row_after table) [] (fields_in body)) (Err Header))
      by_header true = rows_begin [] body
      by_header false = refl

-- so it does for demand
pub demand_begins : BeginsWithTheFault demand_table
demand_begins = begins_with_fault demand_table (omega arith)

-- so it does for costs
pub costs_begin : (limits : Limits) → BeginsWithTheFault (cost_table limits)
costs_begin limits = begins_with_fault (cost_table limits) (few_costs limits)
  where
    few_costs : (limits : Limits) → most_cost_rows limits ≤ 2 ^ 32 - 1
    few_costs Tables = omega arith
    few_costs Logs = omega arith

-- so it does for capacities
pub capacities_begin : BeginsWithTheFault capacity_table
capacities_begin = begins_with_fault capacity_table (omega arith)

-- too many fields or too few are no fault of a field
not_of_field : {Row : Type 0} (fault : TableFault) (number : ℕ)
    → ◌≡◌ {A = Result Row TableFault} (Err (fault_of.Fields number)) (Err fault) → is_of_field fault ≡ true → ⊥
not_of_field fault number e is = grind arith

-- of three fields one that is not as it should be is found
is_found : (is_good : ℕ → List ℕ → Bool) (a b c : List ℕ) → (is_good 0 a && (is_good 1 b && is_good 2 c)) ≡ false
    → is_some (first_bad is_good (a ∷ b ∷ c ∷ [])) ≡ true
is_found is_good a b c bad = grind arith

-- three fields that spell no row are not all as they should be
demand_is_bad : (number : ℕ) (a b c : List ℕ) (fault : TableFault) → demand_of number a b c ≡ Err fault
    → (is_demand_field 0 a && (is_demand_field 1 b && is_demand_field 2 c)) ≡ false
demand_is_bad number a b c fault e = grind arith

-- a row of costs that is refused has a bad field
costs_are_bad : (number : ℕ) (a b c : List ℕ) (fault : TableFault) → cost_of number a b c ≡ Err fault
    → (is_cost_field 0 a && (is_cost_field 1 b && is_cost_field 2 c)) ≡ false
costs_are_bad number a b c fault e = grind arith

-- a row of capacities that is refused has a bad field
capacities_are_bad : (number : ℕ) (a b c : List ℕ) (fault : TableFault) → capacity_of number a b c ≡ Err fault
    → (is_capacity_field 0 a && (is_capacity_field 1 b && is_capacity_field 2 c)) ≡ false
capacities_are_bad number a b c fault e = grind arith

-- a table whose rows are of three fields
module _ {Row : Type 0} (table : Table Row) (read : ℕ → List ℕ → List ℕ → List ℕ → Result Row TableFault)
    (of : (number : ℕ) (fields : Fields) → table.row_in number fields ≡ of_three read number fields)
    (bad : (number : ℕ) (a b c : List ℕ) (fault : TableFault) → read number a b c ≡ Err fault
    → (table.is_good 0 a && (table.is_good 1 b && table.is_good 2 c)) ≡ false) where
  -- a fault of a field has a first bad field
  fields_fault : (number : ℕ) (fields : Fields) (fault : TableFault) → of_three read number fields ≡ Err fault
      → is_of_field fault ≡ true → is_some (first_bad table.is_good fields) ≡ true
  fields_fault number [] fault e is = absurd (not_of_field fault number e is)
  fields_fault number (a ∷ []) fault e is = absurd (not_of_field fault number e is)
  fields_fault number (a ∷ b ∷ []) fault e is = absurd (not_of_field fault number e is)
  fields_fault number (a ∷ b ∷ c ∷ []) fault e is = is_found table.is_good a b c (bad number a b c fault e)
  fields_fault number (a ∷ b ∷ c ∷ d ∷ more) fault e is = absurd (not_of_field fault number e is)

  -- each fault of a field has its field
  has_its_field : HasItsField table
  has_its_field number fields fault e is =
      rw is (fields_fault number fields fault (rw of at e) is)

-- so it has in demand
pub demand_has_its_field : HasItsField demand_table
demand_has_its_field = has_its_field demand_table demand_of (λ number fields. refl) demand_is_bad

-- so it has in costs
pub costs_have_their_field : (limits : Limits) → HasItsField (cost_table limits)
costs_have_their_field limits = has_its_field (cost_table limits) cost_of (λ number fields. refl) costs_are_bad

-- so it has in capacities
pub capacities_have_their_field : HasItsField capacity_table
capacities_have_their_field = has_its_field capacity_table capacity_of (λ number fields. refl) capacities_are_bad
