-- Pieces of printed texts, and what a writer took of one.
use Rattle.std.specs.Prelude.{◌-◌, ◌<◌, ◌++◌, ◌∷◌, [], ℕ, List, Option, decimal, length, replicate, take}
use Rattle.std.specs.Io.KnownBytes.{Appends}

-- numbers, each after a space, and the line's end
abbrev pub spaced : List ℕ → List ℕ
spaced [] = 10 ∷ []
spaced (n ∷ ns) = 32 ∷ (decimal n ++ spaced ns)

-- a word and numbers, on a line
abbrev pub numbered : List ℕ → List ℕ → List ℕ
numbered word ns = word ++ spaced ns

-- a text behind the spaces that fill it up to a width; a longer one stands as it is
abbrev pub right_aligned : ℕ → List ℕ → List ℕ
right_aligned width text = replicate (width - length text) 32 ++ text

-- a beginning of the text was taken, which is not all of it
abbrev pub IsCut : Option (List ℕ) → Option (List ℕ) → List ℕ → Type 0
IsCut old new text = (n : ℕ) × (n < length text) × Appends old new (take n text)
