-- Where the records of a text and their fields begin: in which line, and behind how many octets.
--
-- The machine of the `csv` crate takes the text octet by octet. A record begins at the octet that takes the machine
-- from
-- between two records into one, and each further field behind the octet that ends the field before it.
use Rattle.std.specs.Prelude.{◌≡◌, ◌+◌, ◌-◌, ◌^◌, ◌==◌, ◌&&◌, ◌||◌, ⊤, Bool, true, false, not, ℕ, zero, suc, List, []}
use Rattle.std.specs.Prelude.{◌∷◌, ◌++◌, length, min, get_or, map, Option, Some, None, if◌then◌else◌}
use Rattle.csv.specs.Machine.{carriage_return, ends_at_end, field_after, fields_after, is_end, line_feed, step}
use Rattle.csv.specs.Reading.{default_config, strip_bom}
use Rattle.csv.specs.declared.parser.Action.{Action}
use Rattle.csv.specs.declared.parser.Action.TheVariants as action
use Rattle.csv.specs.declared.parser.State.{State}
use Rattle.csv.specs.declared.parser.State.TheVariants as state
use Rattle.hsp_csv.specs.Records.{Fields}
use Rattle.hsp_csv.specs.declared.place.Place.{Place}

-- ---- places

-- LF, CR LF and CR end a line: an LF directly behind a CR ends no line of its own
abbrev pub ends_line : Place → ℕ → Bool
ends_line at octet = (octet == carriage_return) || ((octet == line_feed) && not at.after_return)

-- a number of 64 bits, and one more
abbrev pub one_more : ℕ → ℕ
one_more number = min (number + 1) (2 ^ 64 - 1)

-- the place behind an octet
abbrev pub place_after : Place → ℕ → Place
place_after at octet =
    record {
      octet = one_more at.octet;
      line = if ends_line at octet then one_more at.line else at.line;
      after_return = octet == carriage_return;
    }

-- the place behind some first octets of a text that end no line
abbrev pub first_line : ℕ → Place
first_line octets = record { octet = octets; line = 1; after_return = false }

-- the place before the first record of a text: behind a byte order mark
abbrev pub start_of : List ℕ → Place
start_of text = first_line (length text - length (strip_bom text))

-- ---- a record with its places

-- a record, and where each of its fields begins
pub record Placed : Type 0 where
  pub fields : Fields
  pub places : List Place

-- where a field of a record begins, and where the record does
abbrev pub place_of : Placed → ℕ → Place
place_of «record» field = get_or «record».places field (first_line 0)

abbrev pub begin_of : Placed → Place
begin_of «record» = place_of «record» 0

-- A record that is being read: the machine's state, the place behind the octets taken, the fields that have ended with
-- the place where each began, and the field at hand with its place.
pub record Walk : Type 0 where
  pub state : State
  pub at : Place
  pub fields : Fields
  pub places : List Place
  pub field : List ℕ
  pub held : Place

-- a further record
abbrev pub fresh : State → Place → Walk
fresh state at = record { state = state; at = at; fields = []; places = []; field = []; held = at }

-- between two records none has begun, and its first field begins at the next octet
abbrev pub begins_at : State → Place → Place → Place
begins_at state.StartRecord at held = at
begins_at state.AfterCr at held = at
begins_at state.StartField at held = held
begins_at state.InField at held = held
begins_at state.InQuoted at held = held
begins_at state.AfterQuote at held = held
begins_at state.InEscape at held = held
begins_at state.InComment at held = held

-- behind an octet that ends a field begins the next one
abbrev pub held_after : Action → Place → Place → Place
held_after action.EndField held behind = behind
held_after action.EndRecord held behind = held
held_after action.Skip held behind = held
held_after action.Copy held behind = held

-- an octet that ends a field adds its place
abbrev pub places_after : Action → List Place → Place → List Place
places_after action.EndField places held = places ++ held ∷ []
places_after action.EndRecord places held = places ++ held ∷ []
places_after action.Skip places held = places
places_after action.Copy places held = places

-- what an octet does
abbrev pub walk_by : State × Action → Place → Walk → ℕ → Walk
walk_by (next, does) held walk octet =
    record {
      state = next;
      at = place_after walk.at octet;
      fields = fields_after does walk.fields walk.field;
      places = places_after does walk.places held;
      field = field_after does octet walk.field;
      held = held_after does held (place_after walk.at octet);
    }

abbrev pub walk_after : Walk → ℕ → Walk
walk_after walk octet =
    walk_by (step default_config walk.state octet) (begins_at walk.state walk.at walk.held) walk octet

-- the octet ends the record
abbrev pub ends_record : Walk → ℕ → Bool
ends_record walk octet = is_end (step default_config walk.state octet).1

-- the end of the text ends the record
abbrev pub walk_at_end : Walk → Walk
walk_at_end walk =
    record walk {
      state = state.StartRecord;
      fields = walk.fields ++ walk.field ∷ [];
      places = walk.places ++ walk.held ∷ [];
      field = [];
    }

-- the record as it has ended, and the octets behind it
unfoldable pub walk_to_end : Walk → List ℕ → Option (Walk × List ℕ)
walk_to_end walk [] = if ends_at_end walk.state then Some (walk_at_end walk, []) else None
walk_to_end walk (octet ∷ rest) =
    if ends_record walk octet then Some (walk_after walk octet, rest) else walk_to_end (walk_after walk octet) rest

-- ---- the records of a text with their places

abbrev pub placed_of_walk : Walk → Placed
placed_of_walk walk = record { fields = walk.fields; places = walk.places }

-- a record that was read, and those behind it
abbrev pub placed_next : (State → Place → List ℕ → List Placed) → Option (Walk × List ℕ) → List Placed
placed_next more None = []
placed_next more (Some read) = placed_of_walk read.0 ∷ more read.0.state read.0.at read.1

-- at most so many records, from a state and a place on
unfoldable pub placed_from : ℕ → State → Place → List ℕ → List Placed
placed_from zero state at octets = []
placed_from (suc most) state at octets =
    placed_next (placed_from most) (walk_to_end (fresh state at) octets)

-- each record of the octets, from a state and a place on
abbrev pub placed_behind : State → Place → List ℕ → List Placed
placed_behind state at octets = placed_from (length octets + 1) state at octets

-- each record of a text
abbrev pub placed_of : List ℕ → List Placed
placed_of text = placed_behind state.StartRecord (start_of text) (strip_bom text)

-- the fields of records
abbrev pub fields_in : List Placed → List Fields
fields_in all = map (λ (one : Placed). one.fields) all

-- each field of a record has a place
abbrev pub IsWhole : Placed → Type 0
IsWhole one = length one.places ≡ length one.fields

-- ---- reading

-- a read took the first of the records that were left, where they are known, or found that none was left
abbrev pub TakesPlaced : Option (List Placed) → Option (List Placed) → Bool → Placed → Type 0
TakesPlaced None new found one = ⊤
TakesPlaced (Some old) new false one = old ≡ []
TakesPlaced (Some old) None true one = ⊥
TakesPlaced (Some old) (Some new) true one = old ≡ one ∷ new
