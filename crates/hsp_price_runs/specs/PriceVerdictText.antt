-- The line that states a verdict on a certificate by prices.
use Rattle.std.specs.Prelude.{◌++◌, ◌∷◌, [], ℕ, List, codes, decimal}
use Rattle.hsp_prices.specs.Verdict.{number}
use Rattle.hsp_prices.specs.declared.verdict.PriceVerdict.{PriceVerdict}
use Rattle.hsp_prices.specs.declared.verdict.PriceVerdict.TheVariants.{Yes, No}
use Rattle.hsp_inputs.specs.PriceReasons.{reason_word}

-- yes, or no with the reason's number and name
abbrev pub verdict_words : PriceVerdict → List ℕ
verdict_words Yes = codes "yes"
verdict_words (No reason) = codes "no " ++ (decimal (number reason) ++ (codes " " ++ reason_word reason))

abbrev pub verdict_text : PriceVerdict → List ℕ
verdict_text verdict = verdict_words verdict ++ 10 ∷ []

-- 0 for yes, 3 for no
abbrev pub verdict_status : PriceVerdict → ℕ
verdict_status Yes = 0
verdict_status (No reason) = 3
