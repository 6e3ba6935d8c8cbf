-- What the runs read from inputs, and what the page says of them.
use Rattle.std.proofs.Common.{◌≡◌, ℕ, List, Option, Some, None, Result, Ok, Err, refl, ap, sym, arith}
use Rattle.hsp_names.specs.Handle.{ReadingsAreHandles}
use Rattle.hsp_record.specs.Fields.{Means}
use Rattle.hsp_record.specs.Values.{HandleValue, values_format}
use Rattle.hsp_text.specs.Answers.{fault_as}
use Rattle.hsp_instance.specs.Building as building
use Rattle.hsp_instance.specs.Building.{IsBuilt}
use Rattle.hsp_instance.specs.Instance.{Instance, IsInstance}
use Rattle.hsp_inputs.specs.Stated as stated
use Rattle.hsp_tables.specs.Demand.{DemandEntry}
use Rattle.hsp_inputs.specs.Instance.{IsInstanceOf, ReadsDemand}
use Rattle.hsp_inputs.specs.HeadlineLaws.{AcceptsTheDefined, GivesTheDefined}
use Rattle.hsp_inputs.specs.Readings.{AreListed, ReadsValues}
use Rattle.hsp_inputs.specs.declared.fault.Fault.{Fault}
use Rattle.hsp_inputs.specs.declared.fault.Fault.TheVariants.{Capacity, Costs, Demand, Settings, Values}
use Rattle.hsp_inputs.specs.declared.inputs.Inputs.{Inputs}
use Rattle.hsp_inputs.proofs.Steps.{built_so, went_on}
use Rattle.hsp_inputs.proofs.Page.{Holds, HoldsRows, is_defined, is_read, is_within}

-- what a part gave well is what the whole tells
pub stated_well : {A E : Type 0} (part : E → Fault) (r : Result A E) (x : A) → Ok x ≡ fault_as part r → r ≡ Ok x
stated_well part r x e = grind arith

-- a list that was read is what its octets mean
pub listed : (octets : List ℕ) (values : List HandleValue) → AreListed octets (Ok values)
    → Means values_format octets (Ok values)
listed octets values are = let same = stated_well Values are.0 values are.3 in rw same at are.1

-- values that were read are the page's
values_are : (given : Option (List ℕ)) (values : Option (List HandleValue)) → ReadsValues given (Ok values)
    → stated.AreValues given values
values_are None values are = let none : values ≡ None = cc (are) in rw none tt
values_are (Some octets) values (Ok own, is, e) =
    let same : values ≡ Some own = cc (e) in rw same (listed octets own is)
values_are (Some octets) values (Err fault, is, e) = cc (e)

-- values of the page are read
values_are_read : (given : Option (List ℕ)) (values : Option (List HandleValue)) → stated.AreValues given values
    → ReadsValues given (Ok values)
values_are_read None None are = refl
values_are_read None (Some values) are = absurd are
values_are_read (Some octets) None are = absurd are
values_are_read (Some octets) (Some values) are = (Ok values, (Ok values, are, (λ e. cc (e)), refl), refl)

-- rows that were read are held
rows_held : (given : Option (List ℕ)) (rows : List DemandEntry) → ReadsDemand given (Ok rows) → HoldsRows given rows
rows_held None rows are = cc (are)
rows_held (Some octets) rows are = stated_well Demand _ rows are

-- rows that are held are read
rows_read : (given : Option (List ℕ)) (rows : List DemandEntry) → HoldsRows given rows → ReadsDemand given (Ok rows)
rows_read None rows none = rw none refl
rows_read (Some octets) rows held = sym (ap (λ r. fault_as Demand r) held)

-- what the runs have read
pub hold : (inputs : Inputs) (it : Instance) → IsInstanceOf inputs (Ok it)
    → (read : building.Inputs) × Holds inputs read × IsBuilt read (Ok it)
hold inputs it is =
    let settings = went_on _ _ it is in
    let values = went_on _ _ it settings.2 in
    let demand = went_on _ _ it values.2 in
    let costs = went_on _ _ it demand.2 in
    let capacities = went_on _ _ it costs.2 in
    let read : building.Inputs =
    record {
      settings = settings.0;
      values = values.0;
      demand = demand.0;
      costs = costs.0;
      capacities = capacities.0;
    } in (
      read,
      record {
        settings = stated_well Settings _ settings.0 settings.1;
        values = values_are _ values.0 values.1;
        demand = rows_held _ demand.0 demand.1;
        costs = stated_well Costs _ costs.0 costs.1;
        capacities = stated_well Capacity _ capacities.0 capacities.1;
      },
      built_so read it capacities.2.0 capacities.2.1 capacities.2.2,
    )

-- the instance that is given is the one that inputs define
pub gives_the_defined : ReadingsAreHandles → GivesTheDefined
gives_the_defined handles inputs it is =
    let read = hold inputs it is in is_defined handles inputs read.0 it read.1 read.2

-- the instance that inputs define is given
pub accepts_the_defined : ReadingsAreHandles → AcceptsTheDefined
accepts_the_defined handles inputs it page =
    let (read, holds, built) = is_read handles inputs it page in
    let settings = sym (ap (λ r. fault_as Settings r) holds.settings) in
    let demand = rows_read _ read.demand holds.demand in
    let costs = sym (ap (λ r. fault_as Costs r) holds.costs) in
    let capacities = sym (ap (λ r. fault_as Capacity r) holds.capacities) in (
      Ok read.settings,
      settings,
      (
        Ok read.values,
        values_are_read _ read.values holds.values,
        (Ok read.demand, demand, (Ok read.costs, costs, (Ok read.capacities, capacities, (Ok it, built, refl)))),
      ),
    )

-- an instance that is given is within its limits
pub is_instance : ReadingsAreHandles → (inputs : Inputs) (it : Instance) → IsInstanceOf inputs (Ok it) → IsInstance it
is_instance handles inputs it is =
    let read = hold inputs it is in
    is_within inputs read.0 it read.1 read.2 (is_defined handles inputs read.0 it read.1 read.2)
