-- Whole numbers from 1 on, in words.
use Rattle.std.specs.Prelude.{◌==◌, ℕ, List, Result, Ok, Err, if◌then◌else◌}
use Rattle.hsp_text.specs.Whole.{whole_within}
use Rattle.hsp_text.specs.declared.whole.WholeFault.{WholeFault}
use Rattle.hsp_inputs.specs.declared.fault.Fault.{Fault}

-- a number that was read, where it is above 0
abbrev pub above_none : Fault → Result ℕ WholeFault → Result ℕ Fault
above_none fault (Ok n) = if n == 0 then Err fault else Ok n
above_none fault (Err e) = Err fault

-- the number from 1 to the most that a word spells, or the fault
abbrev pub count_at : Fault → ℕ → List ℕ → Result ℕ Fault
count_at fault most word = above_none fault (whole_within most word)
