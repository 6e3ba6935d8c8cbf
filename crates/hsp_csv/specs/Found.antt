-- The list of the faults of records.
use Rattle.std.specs.Prelude.{ℕ, List, [], ◌∷◌, Option, Some, None}
use Rattle.hsp_csv.specs.Places.{Placed, begin_of, place_of}
use Rattle.hsp_csv.specs.declared.found.Checked.{Checked}
use Rattle.hsp_csv.specs.declared.found.Checked.TheVariants.{Faulty, Good, Last}
use Rattle.hsp_csv.specs.declared.found.Found.{Found}
use Rattle.hsp_csv.specs.declared.place.Place.{Place}

-- what a record adds to the faults of the records behind it
abbrev pub listed : {Fault : Type 0} → Checked Fault → List (Found Fault) → List (Found Fault)
listed Good more = more
listed (Faulty found) more = found ∷ more
listed (Last found) more = found ∷ []

-- the first fault of a list
abbrev pub first_fault : {Fault : Type 0} → List (Found Fault) → Option Fault
first_fault [] = None
first_fault (found ∷ more) = Some found.fault

-- The octet at which a field of a record begins or, where there is no one field, the record. The line is always that in
-- which the record begins.
abbrev pub place_at : Placed → Option ℕ → Place
place_at one None = begin_of one
place_at one (Some field) = record (place_of one field) { line = (begin_of one).line }
