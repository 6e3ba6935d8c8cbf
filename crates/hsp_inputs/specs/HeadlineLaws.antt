-- What holds of all inputs: the page of the headline is what they are read as.
use Rattle.std.specs.Prelude.{◌≡◌, Result, Ok}
use Rattle.hsp_instance.specs.Instance.{Instance}
use Rattle.hsp_inputs.specs.Headline.{Defines}
use Rattle.hsp_inputs.specs.Instance.{IsInstanceOf}
use Rattle.hsp_inputs.specs.declared.fault.Fault.{Fault}
use Rattle.hsp_inputs.specs.declared.inputs.Inputs.{Inputs}
use Rattle.hsp_inputs.specs.Memory.{IsOrNoMemory}

-- an instance that inputs give is one that they define by the page
abbrev pub GivesTheDefined : Type 0
GivesTheDefined = (inputs : Inputs) (it : Instance) → IsInstanceOf inputs (Ok it) → Defines inputs it

-- inputs that define an instance by the page give it
abbrev pub AcceptsTheDefined : Type 0
AcceptsTheDefined = (inputs : Inputs) (it : Instance) → Defines inputs it → IsInstanceOf inputs (Ok it)

-- inputs give one answer: one instance, or one first fault
abbrev pub GivesOneAnswer : Type 0
GivesOneAnswer =
    (inputs : Inputs) (a b : Result Instance Fault) → IsInstanceOf inputs a → IsInstanceOf inputs b → a ≡ b

-- so where they define an instance they give nothing else: no fault stands beside it, and no other instance
abbrev pub GivesNothingElse : Type 0
GivesNothingElse =
    (inputs : Inputs) (it : Instance) (answer : Result Instance Fault)
    → Defines inputs it → IsInstanceOf inputs answer → answer ≡ Ok it

-- the instance that the inputs define, where they define one
abbrev pub GivesTheDefinedAlways : Inputs → Result Instance Fault → Type 0
GivesTheDefinedAlways inputs answer = (it : Instance) → Defines inputs it → IsOrNoMemory it answer
