-- The rows of the three tables, and the fields that spell them.
use Rattle.std.proofs.Common.{◌≡◌, ◌≤◌, ◌<◌, ◌^◌, ◌↔◌, ℕ, true, List, [], ◌∷◌, map, Some, Result, Ok, decimal, refl}
use Rattle.std.proofs.Common.{arith, rules}
use Rattle.std.proofs.lemmas.Bool.{le-leb}
use Rattle.std.proofs.lemmas.Bool.Decides.{nat_tests}
use Rattle.std.proofs.lemmas.List.Elements.{All-from_recursion}
use Rattle.std.proofs.lemmas.Option.{get_or_from_slice_get, slice_get_within}
use Rattle.std.specs.Cmp.{IsEquivalence}
use Rattle.std.specs.Cmp.Rules.{comparing}
use Rattle.std.specs.List.{IsDistinct, slice_get}
use Rattle.std.specs.Str.Parse.{digits_value}
use Rattle.hsp_csv.specs.Records.{Fields}
use Rattle.hsp_names.specs.Handle as names
use Rattle.hsp_text.specs.Answers.{◌>>=◌}
use Rattle.hsp_text.specs.Name.{is_name}
use Rattle.hsp_text.specs.Whole.{is_whole, whole_within}
use Rattle.hsp_text.specs.declared.limits.TheConstants.{GREATEST_CAPACITY, GREATEST_COST, GREATEST_COUNT}
use Rattle.hsp_text.proofs.Numerals.{digits_spell_their_number}
use Rattle.hsp_tables.specs.declared.fault.TableFault.{TableFault}
use Rattle.hsp_tables.specs.Capacities.{AreCapacities, CapacityEntry, IsCapacityEntry, capacity_in, capacity_of}
use Rattle.hsp_tables.specs.Capacities.{capacity_table, same_capacity}
use Rattle.hsp_tables.specs.Costs.{AreCosts, AreCostsWithin, CostEntry, IsCostEntry, cost_in, cost_of, cost_table}
use Rattle.hsp_tables.specs.Costs.{most_cost_regions, most_cost_rows, same_cost}
use Rattle.hsp_tables.specs.declared.limits.Limits.{Limits}
use Rattle.hsp_tables.specs.declared.limits.Limits.TheVariants.{Logs, Tables}
use Rattle.hsp_tables.specs.Demand.{AreDemand, DemandEntry, IsDemandEntry, demand_in, demand_of, demand_table}
use Rattle.hsp_tables.specs.Demand.{same_demand}
use Rattle.hsp_tables.specs.Fields.{greatest_of_32_bits, name_in, number_in, of_three}
use Rattle.hsp_tables.specs.Table.{table_of}
use Rattle.hsp_tables.proofs.TableReading.{reads_rows}

-- a text that is read as a number is the number's digits, within the limit
pub whole_is : (most : ℕ) (text : List ℕ) (n : ℕ) → most < 2 ^ 64 → whole_within most text ≡ Ok n
    → (text ≡ decimal n) × (n ≤ most)
whole_is most text n small e =
    let read : (is_whole text ≡ true) × (digits_value 10 text ≡ n) × (n ≤ most) = grind (arith, nat_tests) in
    ((digits_spell_their_number n text (omega arith)).0 (read.0, read.1), read.2)

-- and the digits of a number within the limit are read
pub whole_is_read : (most n : ℕ) → most < 2 ^ 64 → n ≤ most → whole_within most (decimal n) ≡ Ok n
whole_is_read most n small within =
    let spelled = (digits_spell_their_number n (decimal n) (omega arith)).1 refl in
    rw (spelled.0, spelled.1, le-leb n most within) refl

-- a record that spells a row has three fields, which spell it
three_were : {Row : Type 0} (read : ℕ → List ℕ → List ℕ → List ℕ → Result Row TableFault) (n : ℕ) (fields : Fields)
    (row : Row) → of_three read n fields ≡ Ok row
    → (a : List ℕ) × (b : List ℕ) × (c : List ℕ) × (fields ≡ a ∷ b ∷ c ∷ []) × (read n a b c ≡ Ok row)
three_were read n [] row e = cc e
three_were read n (a ∷ []) row e = cc e
three_were read n (a ∷ b ∷ []) row e = cc e
three_were read n (a ∷ b ∷ c ∷ []) row e = (a, b, c, refl, e)
three_were read n (a ∷ b ∷ c ∷ d ∷ more) row e = cc e

abbrev pub demand_fields : DemandEntry → Fields
demand_fields row = row.region ∷ row.handle ∷ decimal row.count ∷ []

abbrev pub cost_fields : CostEntry → Fields
cost_fields row = row.region ∷ row.site ∷ decimal row.cost ∷ []

abbrev pub capacity_fields : CapacityEntry → Fields
capacity_fields row = row.site ∷ decimal row.server_id ∷ decimal row.capacity ∷ []

-- a record is read as a row of demand just where it has that row's fields
demand_is : (n : ℕ) (fields : Fields) (row : DemandEntry)
    → (demand_in n fields ≡ Ok row) ↔ ((fields ≡ demand_fields row) × IsDemandEntry row)
demand_is n fields row = (
  λ e.
      let (r, h, c, are, read) = three_were demand_of n fields row e in
      let parts : (r ≡ row.region) × (is_name r ≡ true) × (h ≡ row.handle) × (names.handle_in h ≡ Ok h)
      × (whole_within GREATEST_COUNT c ≡ Ok row.count) = grind (arith, nat_tests) in
      let count = whole_is GREATEST_COUNT c row.count (omega arith) parts.4 in (
        rw are (cc (parts.0, parts.2, count.0)),
        record { region = rw parts.0 at parts.1; handle = rw parts.2 at parts.3; count = count.1 },
      ),
  λ (same, is). rw (same, is.region, is.handle, whole_is_read GREATEST_COUNT row.count (omega arith) is.count) refl,
)

-- a record is read as a cost just where it has that row's fields
cost_is : (n : ℕ) (fields : Fields) (row : CostEntry)
    → (cost_in n fields ≡ Ok row) ↔ ((fields ≡ cost_fields row) × IsCostEntry row)
cost_is n fields row = (
  λ e.
      let (r, s, c, are, read) = three_were cost_of n fields row e in
      let parts : (r ≡ row.region) × (is_name r ≡ true) × (s ≡ row.site) × (is_name s ≡ true)
      × (whole_within GREATEST_COST c ≡ Ok row.cost) = grind (arith, nat_tests) in
      let cost = whole_is GREATEST_COST c row.cost (omega arith) parts.4 in (
        rw are (cc (parts.0, parts.2, cost.0)),
        record { region = rw parts.0 at parts.1; site = rw parts.2 at parts.3; cost = cost.1 },
      ),
  λ (same, is). rw (same, is.region, is.site, whole_is_read GREATEST_COST row.cost (omega arith) is.cost) refl,
)

-- what is read as a name is a name
name_is : (n : ℕ) (text name : List ℕ) → name_in n text ≡ Ok name → (text ≡ name) × (is_name text ≡ true)
name_is n text name e = grind arith

-- what is read as a number is whole and within its limit
whole_was : (n most : ℕ) (text : List ℕ) (number : ℕ) → number_in n most text ≡ Ok number
    → whole_within most text ≡ Ok number
whole_was n most text number e = grind arith

-- a row of three fields was read in three steps
three_steps : (a : Result (List ℕ) TableFault) (b c : Result ℕ TableFault) (row : CapacityEntry)
    → (a >>= λ s. b >>= λ i. c >>= λ k. Ok (record { site = s; server_id = i; capacity = k })) ≡ Ok row
    → (a ≡ Ok row.site) × (b ≡ Ok row.server_id) × (c ≡ Ok row.capacity)
three_steps a b c row e = grind arith

-- a record is read as a capacity just where it has that row's fields
capacity_is : (n : ℕ) (fields : Fields) (row : CapacityEntry)
    → (capacity_in n fields ≡ Ok row) ↔ ((fields ≡ capacity_fields row) × IsCapacityEntry row)
capacity_is n fields row = (
  λ e.
      let (s, i, c, are, read) = three_were capacity_of n fields row e in
      let parts =
      three_steps (name_in n s) (number_in n greatest_of_32_bits i) (number_in n GREATEST_CAPACITY c) row read in
      let site : (s ≡ row.site) × (is_name s ≡ true) = name_is n s row.site parts.0 in
      let id =
      whole_is greatest_of_32_bits i row.server_id (omega arith)
      (whole_was n greatest_of_32_bits i row.server_id parts.1) in
      let capacity =
      whole_is GREATEST_CAPACITY c row.capacity (omega arith)
      (whole_was n GREATEST_CAPACITY c row.capacity parts.2) in (
        rw are (cc (site.0, id.0, capacity.0)),
        record { site = rw site.0 at site.1; server_id = id.1; capacity = capacity.1 },
      ),
  λ (same, is).
      rw (
        same,
        is.site,
        whole_is_read greatest_of_32_bits row.server_id (omega arith) is.server_id,
        whole_is_read GREATEST_CAPACITY row.capacity (omega arith) is.capacity,
      ) refl,
)

-- rows of demand are the same by region and handle
pub demand_keys : IsEquivalence same_demand
demand_keys = search (rules, comparing)

-- costs are the same by region and site
pub cost_keys : IsEquivalence same_cost
cost_keys = search (rules, comparing)

-- capacities are the same by site and server
pub capacity_keys : IsEquivalence same_capacity
capacity_keys = search (rules, comparing)

-- what the records and the rows of a table that is read are
pub demand_is_read : (records : List Fields) (rows : List DemandEntry)
    → (table_of demand_table records ≡ Ok rows)
    ↔ ((records ≡ demand_table.header ∷ map demand_fields rows) × AreDemand rows)
demand_is_read = reads_rows demand_table demand_keys demand_fields IsDemandEntry demand_is

-- no rows are rows of demand
pub no_demand : AreDemand []
unfolding IsDistinct
no_demand = record {
  keyed = record { few = omega arith; each = tt; apart = tt };
  regions = omega arith;
}

-- records are read as costs just where they are a header and the fields of such rows
pub costs_are : (limits : Limits) (records : List Fields) (rows : List CostEntry)
    → (table_of (cost_table limits) records ≡ Ok rows)
    ↔ ((records ≡ (cost_table limits).header ∷ map cost_fields rows) × AreCostsWithin limits rows)
costs_are limits = reads_rows (cost_table limits) cost_keys cost_fields IsCostEntry cost_is

-- the limits beside a log are the wider ones
wider : (limits : Limits)
    → (most_cost_rows limits ≤ most_cost_rows Logs) × (most_cost_regions limits ≤ most_cost_regions Logs)
wider Tables = (omega arith, omega arith)
wider Logs = (omega arith, omega arith)

-- costs within limits are costs
pub costs_fit : (limits : Limits) (rows : List CostEntry) → AreCostsWithin limits rows → AreCosts rows
costs_fit limits rows are = record {
  keyed = record {
    few = omega (arith, are.keyed.few, (wider limits).0);
    each = are.keyed.each;
    apart = are.keyed.apart;
  };
  regions = omega (arith, are.regions, (wider limits).1);
}

-- records are read as capacities just where they are a header and the fields of such rows
pub capacities_are : (records : List Fields) (rows : List CapacityEntry)
    → (table_of capacity_table records ≡ Ok rows)
    ↔ ((records ≡ capacity_table.header ∷ map capacity_fields rows) × AreCapacities rows)
capacities_are = reads_rows capacity_table capacity_keys capacity_fields IsCapacityEntry capacity_is

-- the handle of a row was read
pub handle_was_read : (rows : List DemandEntry) (place : ℕ) (region handle : List ℕ) (count : ℕ) → AreDemand rows
    → slice_get rows place ≡ Some (record { region = region; handle = handle; count = count })
    → names.handle_in handle ≡ Ok handle
handle_was_read rows place region handle count are e =
    let row : DemandEntry = record { region = region; handle = handle; count = count } in
    (rw (get_or_from_slice_get rows place row row e) at
    (All-from_recursion IsDemandEntry rows are.keyed.each place row (slice_get_within rows place row e))).handle
