use Rattle.std.proofs.Common.{◌≡◌, map}
use Rattle.hsp_price_plan.specs.ClassSums.{class_of}
use Rattle.hsp_price_plan.proofs.classes.classes_in.Given as goal

-- the classes of the entries so far
abbrev pub invariant-loop-key : goal.invariant-loop-key
invariant-loop-key l = l.classes.items ≡ map class_of l.yielded
