-- The line that states a verdict.
use Rattle.std.specs.Prelude.{◌++◌, ◌∷◌, [], ℕ, List, codes, decimal}
use Rattle.hsp_check.specs.declared.verdict.Verdict.{Verdict}
use Rattle.hsp_check.specs.declared.verdict.Verdict.TheVariants.{Yes, No}
use Rattle.hsp_check.specs.Verdict.{number}
use Rattle.hsp_inputs.specs.FaultText.{reason_word}

-- yes, or no with the reason's number and name
abbrev pub verdict_words : Verdict → List ℕ
verdict_words Yes = codes "yes"
verdict_words (No reason) = codes "no " ++ (decimal (number reason) ++ (codes " " ++ reason_word reason))

abbrev pub verdict_text : Verdict → List ℕ
verdict_text verdict = verdict_words verdict ++ 10 ∷ []

-- 0 for yes, 3 for no
abbrev pub verdict_status : Verdict → ℕ
verdict_status Yes = 0
verdict_status (No reason) = 3
