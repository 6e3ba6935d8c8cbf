-- Faulty rows as lines.
use Rattle.std.specs.Prelude.{◌++◌, ◌∷◌, [], ℕ, List, Option, Some, None, codes, decimal}
use Rattle.hsp_csv.specs.declared.found.Found.{Found}
use Rattle.hsp_inputs.specs.StreamFaultText.{fault_words}
use Rattle.hsp_inputs.specs.declared.stream_fault.StreamFault.{StreamFault}

-- the first line
abbrev pub header_line : List ℕ
header_line = codes "row,line,field,octet,fault" ++ 10 ∷ []

-- the digits of a number, where there is one, and a comma
abbrev pub number_text : Option ℕ → List ℕ
number_text None = 44 ∷ []
number_text (Some number) = decimal number ++ 44 ∷ []

-- the line of a faulty row
abbrev pub line_of : Found StreamFault → List ℕ
line_of found =
    number_text found.row ++ (number_text (Some found.place.line) ++ (number_text found.field
    ++ (number_text (Some found.place.octet) ++ (fault_words found.fault ++ 10 ∷ []))))

-- the lines of faulty rows
abbrev pub lines_of : List (Found StreamFault) → List ℕ
lines_of [] = []
lines_of (found ∷ more) = line_of found ++ lines_of more

-- the whole list
abbrev pub text_of : List (Found StreamFault) → List ℕ
text_of all = header_line ++ lines_of all
