-- What a reader of places has left of its text.
use Rattle.std.specs.Prelude.{◌≡◌, ◌≢◌, ◌⊎◌, ◌-◌, ⊤, Bool, true, false, ℕ, List, [], ◌∷◌, ◌++◌, length}
use Rattle.std.specs.Prelude.{Option, Some, None, option_map, if◌then◌else◌}
use Rattle.std.specs.Io.KnownBytes.{Consumes, IsAtEnd, prepend_known}
use Rattle.std.specs.Io.Buffered.{reader_remaining}
use Rattle.std.specs.Io.Iter.{bytes_remaining}
use Rattle.csv.specs.Machine.{ends_at_end}
use Rattle.csv.specs.Reading.{strip_bom}
use Rattle.csv.specs.Records.{fields_of}
use Rattle.hsp_csv.specs.Places.{Placed, Walk, placed_behind, walk_at_end, walk_to_end}
use Rattle.hsp_csv.specs.Scan.{state_of}
use Rattle.hsp_csv.specs.declared.placed.PlacedRecord.{PlacedRecord}
use Rattle.hsp_csv.specs.declared.placed.Walk as declared
use Rattle.hsp_csv.specs.declared.places.Octets.{Octets}
use Rattle.hsp_csv.specs.declared.places.PlacedReader.{PlacedReader}

-- a record with its places
abbrev pub shown : PlacedRecord → Placed
shown placed = record { fields = fields_of placed.fields; places = placed.places.items }

-- a record that is being read
abbrev pub walk_of : declared.Walk → Placed → Walk
walk_of walk read =
    record {
      state = state_of walk.stand;
      at = walk.at;
      fields = read.fields;
      places = read.places;
      field = walk.field.items;
      held = walk.held;
    }

-- the octets behind those that were looked at, where they are known: none once their end was reached
abbrev pub rest_left : {R : Type 0} → (R → Option (List ℕ)) → Octets R → Option (List ℕ)
rest_left remaining octets =
    if octets.ended then Some [] else bytes_remaining (reader_remaining remaining) octets.rest

-- the octets that are left, where they are known
abbrev pub octets_left : {R : Type 0} → (R → Option (List ℕ)) → Octets R → Option (List ℕ)
octets_left remaining octets = prepend_known octets.ahead.items (rest_left remaining octets)

-- a read gave the next of the known octets, or none at their end
abbrev pub GivesNext : Option (List ℕ) → Option (List ℕ) → Option ℕ → Type 0
GivesNext old new (Some octet) = Consumes old new (octet ∷ [])
GivesNext old new None = IsAtEnd old × (new ≡ Some [])

-- an octet was looked at, if there was one, and is the one wanted
abbrev pub Looks : ℕ → List ℕ → List ℕ → Option (List ℕ) → Bool → Type 0
Looks wanted old new rest true = new ≡ old ++ wanted ∷ []
Looks wanted old new rest false =
    ((octet : ℕ) × (octet ≢ wanted) × (new ≡ old ++ octet ∷ [])) ⊎ ((new ≡ old) × (rest ≡ Some []))

-- a byte order mark was passed over, if there was one, and it has so many octets
abbrev pub PassesMark : Option (List ℕ) → Option (List ℕ) → ℕ → Type 0
PassesMark None new marked = ⊤
PassesMark (Some text) None marked = ⊥
PassesMark (Some text) (Some rest) marked = (rest ≡ strip_bom text) × (marked ≡ length text - length (strip_bom text))

-- the records that are left, where the octets are known
abbrev pub placed_left : {R : Type 0} → (R → Option (List ℕ)) → PlacedReader R → Option (List Placed)
placed_left remaining reader =
    option_map (placed_behind (state_of reader.walk.stand) reader.walk.at) (octets_left remaining reader.octets)

-- the octets that are left of a text lead a record on to the same end, where they are known
abbrev pub LeadOn : Option (List ℕ) → Walk → Option (List ℕ) → Walk → Type 0
LeadOn None begun left walk = ⊤
LeadOn (Some octets) begun None walk = ⊥
LeadOn (Some octets) begun (Some left) walk = walk_to_end begun octets ≡ walk_to_end walk left

-- at the end of a text a record that has begun ends
abbrev pub EndsText : Walk → Walk → Bool → Type 0
EndsText old new true = (ends_at_end old.state ≡ true) × (new ≡ walk_at_end old)
EndsText old new false = ends_at_end old.state ≡ false
