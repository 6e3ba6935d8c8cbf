-- Inputs have one answer: one instance, or one first fault. So where they define an instance they give nothing else.
use Rattle.std.proofs.Common.{◌∙◌, ℕ, List, Option, Some, None, Ok, ap, sym, inl, inr, Result, Err}
use Rattle.std.specs.Prelude.{option_map}
use Rattle.hsp_names.specs.Handle.{ReadingsAreHandles}
use Rattle.hsp_record.specs.Fields as formats
use Rattle.hsp_record.specs.Values.{values_format}
use Rattle.hsp_text.specs.Answers.{fault_as}
use Rattle.hsp_instance.specs.Building as building
use Rattle.hsp_instance.proofs.OneAnswer.{IsOne, then_one}
use Rattle.hsp_inputs.specs.Instance.{BuildsInstance, ReadsCapacitiesOn, ReadsCostsOn, ReadsValuesOn, ReadsDemandOn}
use Rattle.hsp_inputs.specs.Instance.{ReadsCapacities, ReadsCosts, ReadsDemand, IsInstanceOf}
use Rattle.hsp_inputs.specs.HeadlineLaws.{GivesNothingElse, GivesOneAnswer, GivesTheDefinedAlways}
use Rattle.hsp_inputs.specs.Limits.{limits_of}
use Rattle.hsp_inputs.specs.Readings.{AreListed, ReadsSettings, ReadsValues, some_list}
use Rattle.hsp_inputs.specs.declared.fault.Fault.TheVariants.{Build, Values}
use Rattle.hsp_inputs.proofs.PageRead.{accepts_the_defined}
use Rattle.hsp_instance.specs.Instance.{Instance}
use Rattle.hsp_inputs.specs.declared.fault.Fault.{Fault}
use Rattle.hsp_inputs.specs.Memory.{OrNoMemory}
use Rattle.hsp_inputs.specs.declared.inputs.Inputs.{Inputs}

-- values have one list, or one fault
listed_one : formats.HasOneAnswer values_format → (octets : List ℕ) → IsOne (AreListed octets)
listed_one one octets a b is also =
    is.3 ∙ ap (λ t. fault_as Values t) (one octets is.0 also.0 is.2 also.2 is.1 also.1) ∙ sym also.3

-- so have values that may be left out
values_one : formats.HasOneAnswer values_format → (given : Option (List ℕ)) → IsOne (ReadsValues given)
values_one one None a b is also = is ∙ sym also
values_one one (Some octets) a b is also =
    is.2 ∙ ap some_list (listed_one one octets is.0 also.0 is.1 also.1) ∙ sym also.2

-- so have rows that may be left out
one_demand : (given : Option (List ℕ)) → IsOne (ReadsDemand given)
one_demand None a b is also = is ∙ sym also
one_demand (Some octets) a b is also = is ∙ sym also

-- what is read builds one instance, or has one fault
built_one : building.HasOneAnswer → (read : building.Inputs) → IsOne (BuildsInstance read)
built_one once read a b is also = is.2 ∙ ap (λ t. fault_as Build t) (once read is.0 also.0 is.1 also.1) ∙ sym also.2

-- inputs give one instance, or one first fault
pub gives_one_answer : formats.HasOneAnswer values_format → building.HasOneAnswer → GivesOneAnswer
gives_one_answer one once inputs =
    then_one (ReadsSettings inputs.settings.items) (ReadsValuesOn inputs) (λ a b is also. is ∙ sym also) (λ settings.
    then_one (ReadsValues (option_map (λ v. v.items) inputs.values)) (ReadsDemandOn inputs settings)
    (values_one one (option_map (λ v. v.items) inputs.values)) (λ values.
    then_one (ReadsDemand (option_map (λ d. d.items) inputs.demand)) (ReadsCostsOn inputs settings values)
    (one_demand (option_map (λ d. d.items) inputs.demand))
    (λ demand.
    then_one (ReadsCosts (limits_of inputs) inputs.costs.items) (ReadsCapacitiesOn inputs settings values demand)
    (λ a b is also. is ∙ sym also) (λ costs.
    then_one (ReadsCapacities inputs.capacity.items)
    (λ capacities.
    BuildsInstance
    (record { settings = settings; values = values; demand = demand; costs = costs; capacities = capacities }))
    (λ a b is also. is ∙ sym also) (λ capacities.
    built_one once
    (record { settings = settings; values = values; demand = demand; costs = costs; capacities = capacities }))))))

-- inputs that define an instance give nothing else
pub gives_nothing_else : ReadingsAreHandles → GivesOneAnswer → GivesNothingElse
gives_nothing_else handles once inputs it answer page other =
    once inputs answer (Ok it) other (accepts_the_defined handles inputs it page)

-- inputs that define an instance give it, or memory ran out
pub gives_always : GivesNothingElse → (inputs : Inputs) (answer : Result Instance Fault)
    → OrNoMemory (IsInstanceOf inputs) answer → GivesTheDefinedAlways inputs answer
gives_always only inputs (Ok x) is it page = let same = only inputs it (Ok x) page is in cc (same)
gives_always only inputs (Err e) (inl memory) it page = memory
gives_always only inputs (Err e) (inr is) it page = let none = only inputs it (Err e) page is in cc (none)
