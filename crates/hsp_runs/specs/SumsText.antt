-- The line that states the sums of a log.
use Rattle.std.specs.Prelude.{◌++◌, ◌∷◌, [], ℕ, List, codes, decimal}
use Rattle.hsp_dispatch.specs.declared.answer.LogSums.{LogSums}

-- how many entries were answered by each kind of answer
abbrev pub sums_text : LogSums → List ℕ
sums_text sums =
    codes "assigned "
    ++ (decimal sums.assigned
    ++ (codes " spent " ++ (decimal sums.spent ++ (codes " unknown " ++ (decimal sums.unknown ++ 10 ∷ [])))))
