-- What a writer holds after a text was written.
use Rattle.std.specs.Prelude.{ℕ, List, Option, Result, Ok, Err, take}
use Rattle.std.specs.Io.KnownBytes.{Appends}

-- some of the first octets were written
abbrev pub IsBegun : Option (List ℕ) → Option (List ℕ) → List ℕ → Type 0
IsBegun old new octets = (count : ℕ) × Appends old new (take count octets)

-- the text was written; or a write failed, as it may, and a beginning of the text was written
abbrev pub Puts : {E : Type 0} → Type 0 → List ℕ → Option (List ℕ) → Option (List ℕ) → Result (Unit {0}) E → Type 0
Puts MayFail text old new (Ok done) = Appends old new text
Puts MayFail text old new (Err failed) = MayFail × IsBegun old new text
