-- The fronts that words spell.
use Rattle.std.specs.Prelude.{nat_lt, ℕ, List, Option, None, Some, Result, Ok, Err, if◌then◌else◌}
use Rattle.hsp_text.specs.Whole.{whole_within}
use Rattle.hsp_text.specs.declared.whole.WholeFault.{WholeFault}
use Rattle.hsp_text.specs.declared.limits.TheConstants.{MOST_FRONTS}
use Rattle.hsp_inputs.specs.declared.fault.Fault.TheVariants.{BadFronts}
use Rattle.hsp_inputs.specs.Counts.{count_at}
use Rattle.hsp_inputs.specs.declared.stream_fault.StreamFault.{StreamFault}
use Rattle.hsp_inputs.specs.declared.stream_fault.StreamFault.TheVariants.{BadFront, Input}

abbrev pub or_else_fault : {X E F : Type 0} → F → Result X E → Result X F
or_else_fault fault (Ok x) = Ok x
or_else_fault fault (Err e) = Err fault

-- a word, or a number where there is no word
abbrev pub word_or : Option (List ℕ) → ℕ → (List ℕ → Result ℕ StreamFault) → Result ℕ StreamFault
word_or None number spelled = Ok number
word_or (Some word) number spelled = spelled word

abbrev pub fronts_at : List ℕ → Result ℕ StreamFault
fronts_at word = or_else_fault (Input BadFronts) (count_at BadFronts MOST_FRONTS word)

abbrev pub below : ℕ → Result ℕ WholeFault → Result ℕ StreamFault
below fronts (Ok front) = if nat_lt front fronts then Ok front else Err BadFront
below fronts (Err e) = Err BadFront

abbrev pub front_at : ℕ → List ℕ → Result ℕ StreamFault
front_at fronts word = below fronts (whole_within MOST_FRONTS word)
