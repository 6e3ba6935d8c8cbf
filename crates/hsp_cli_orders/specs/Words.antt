-- The words of a line: what stands between its spaces, the octet 32, where it isn't empty.
use Rattle.std.specs.Prelude.{◌==◌, not, Bool, ℕ, List, length, filter}
use Rattle.std.specs.List.{slice_split}

abbrev pub is_word : List ℕ → Bool
is_word w = not (length w == 0)

abbrev pub words_of : List ℕ → List (List ℕ)
words_of line = filter is_word (slice_split (λ o. o == 32) line)
