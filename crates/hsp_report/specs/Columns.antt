-- Lines of the reports.
use Rattle.std.specs.Prelude.{◌++◌, ◌∷◌, [], ℕ, List, codes, decimal}
use Rattle.hsp_text.specs.Writing.{right_aligned}
use Rattle.hsp_report.specs.declared.columns.Column.{Column}

-- a number in a column of the width
abbrev pub aligned : ℕ → ℕ → Column
aligned width number = record { width = width; number = number }

-- numbers, each right-aligned in its column and a space behind it, and a name
abbrev pub column_line : List Column → List ℕ → List ℕ
column_line [] name = name ++ 10 ∷ []
column_line (c ∷ cs) name = right_aligned c.width (decimal c.number) ++ 32 ∷ column_line cs name

-- a word, two numbers, and what is left of the first without the second
abbrev pub difference_line : List ℕ → ℕ → ℕ → ℕ → List ℕ
difference_line word first second left =
    word ++ 32 ∷ (decimal first ++ (codes " - " ++ (decimal second ++ (codes " = "
    ++ (decimal left ++ 10 ∷ [])))))
