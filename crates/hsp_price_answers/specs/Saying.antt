-- The lines of rows that are refused.
use Rattle.std.specs.Prelude.{ℕ, List, [], ◌∷◌, ◌++◌, codes}
use Rattle.hsp_inputs.specs.FaultText.{handle_words}
use Rattle.hsp_price_answers.specs.declared.row_refusal.RowRefusal.{RowRefusal}
use Rattle.hsp_price_answers.specs.declared.row_refusal.RowRefusal.TheVariants.{BadBody, BadHandle, Fields, TooLong}

-- the words of a refusal
abbrev pub refusal_words : RowRefusal → List ℕ
refusal_words TooLong = codes "TooLong"
refusal_words Fields = codes "Fields"
refusal_words BadBody = codes "BadBody"
refusal_words (BadHandle fault) = codes "BadHandle " ++ handle_words fault

-- its line
abbrev pub refused_line : RowRefusal → List ℕ
refused_line refusal = codes "refused " ++ refusal_words refusal ++ 10 ∷ []
