-- Lines of the input.
use Rattle.std.specs.Prelude.{◌==◌, Bool, ℕ, List}
use Rattle.std.specs.List.{before_first}

abbrev pub is_lf : ℕ → Bool
is_lf o = o == 10

-- the octets before the first LF, or all without one
abbrev pub first_line_of : List ℕ → List ℕ
first_line_of text = before_first is_lf text
