-- Records with their places are the records, and each field has a place.
use Rattle.std.proofs.Common.{◌≡◌, ◌∙◌, ℕ, zero, suc, List, [], ◌∷◌, ◌++◌, length, Option, Some, None}
use Rattle.std.proofs.Common.{option_map}
use Rattle.std.proofs.Common.{Bool, true, false, cond, refl, ap}
use Rattle.std.proofs.lemmas.List.{length-append}
use Rattle.std.specs.List.{AllByRecursion}
use Rattle.csv.specs.Machine.{Read, ends_at_end, fields_after, next_record, step}
use Rattle.csv.specs.Reading.{default_config, records_from, records_next}
use Rattle.csv.specs.declared.parser.Action.{Action}
use Rattle.csv.specs.declared.parser.Action.TheVariants as action
use Rattle.csv.specs.declared.parser.State.{State}
use Rattle.csv.specs.declared.parser.State.TheVariants as state
use Rattle.hsp_csv.specs.Places.{IsWhole, Walk, ends_record, fields_in, fresh, placed_from, placed_next}
use Rattle.hsp_csv.specs.Places.{placed_of}
use Rattle.hsp_csv.specs.Places.{places_after, start_of, walk_after, walk_at_end, walk_to_end}
use Rattle.hsp_csv.specs.Records.{Fields, records_of}
use Rattle.hsp_csv.specs.declared.place.Place.{Place}

-- what the machine reads, without places
abbrev bare : Walk × List ℕ → Read
bare read = (read.0.fields, read.0.state, read.1)

-- a record is read as it is without places
walk_is_bare : (walk : Walk) (octets : List ℕ)
    → option_map bare (walk_to_end walk octets) ≡ next_record default_config walk.state walk.fields walk.field octets
unfolding walk_to_end next_record
walk_is_bare walk [] = by_end (ends_at_end walk.state)
  where
    by_end : (begun : Bool) → option_map bare (cond begun (Some (walk_at_end walk, [])) None)
        ≡ cond begun (Some (walk.fields ++ walk.field ∷ [], state.StartRecord, [])) None
    by_end true = refl
    by_end false = refl
walk_is_bare walk (octet ∷ rest) = by_end (ends_record walk octet) (walk_is_bare (walk_after walk octet) rest)
  where
    next : Option Read
    next =
        next_record default_config (walk_after walk octet).state (walk_after walk octet).fields
        (walk_after walk octet).field rest

    by_end : (ended : Bool) → option_map bare (walk_to_end (walk_after walk octet) rest) ≡ next
        → option_map bare (cond ended (Some (walk_after walk octet, rest)) (walk_to_end (walk_after walk octet) rest))
        ≡ cond ended (Some (bare (walk_after walk octet, rest))) next
    by_end true later = refl
    by_end false later = later

-- records without their places
records_are : (most : ℕ) (s : State) (at : Place) (octets : List ℕ)
    → fields_in (placed_from most s at octets) ≡ records_from default_config most s octets
unfolding placed_from records_from
records_are zero s at octets = refl
records_are (suc most) s at octets =
    by_read (walk_to_end (fresh s at) octets) (records_are most)
    ∙ ap (records_next (records_from default_config most)) (walk_is_bare (fresh s at) octets)
  where
    by_read : (read : Option (Walk × List ℕ))
        → ((s2 : State) (at2 : Place) (rest : List ℕ)
        → fields_in (placed_from most s2 at2 rest) ≡ records_from default_config most s2 rest)
        → fields_in (placed_next (placed_from most) read)
        ≡ records_next (records_from default_config most) (option_map bare read)
    by_read None later = refl
    by_read (Some read) later = ap (λ (t : List Fields). read.0.fields ∷ t) (later read.0.state read.0.at read.1)

-- the fields of placed records are the records of the text
pub placed_are_records : (text : List ℕ) → fields_in (placed_of text) ≡ records_of text
placed_are_records text = records_are _ state.StartRecord (start_of text) _

-- an octet adds a place where it adds a field
whole_by : (does : Action) (fields : Fields) (field : List ℕ) (places : List Place) (held : Place)
    → length places ≡ length fields → length (places_after does places held) ≡ length (fields_after does fields field)
whole_by action.Skip fields field places held is = is
whole_by action.Copy fields field places held is = is
whole_by action.EndField fields field places held is =
    rw (length-append places (held ∷ []), length-append fields (field ∷ []), is) refl
whole_by action.EndRecord fields field places held is =
    rw (length-append places (held ∷ []), length-append fields (field ∷ []), is) refl

-- a reading has one value
same_read : (x y : Walk × List ℕ) → Some x ≡ Some y → x ≡ y
same_read x y e = cc

-- a record that is read is whole
walk_is_whole : (walk : Walk) (octets : List ℕ) (read : Walk × List ℕ) → length walk.places ≡ length walk.fields
    → walk_to_end walk octets ≡ Some read → length read.0.places ≡ length read.0.fields
unfolding walk_to_end
walk_is_whole walk [] read is e = by_end (ends_at_end walk.state) e
  where
    by_end : (begun : Bool) → cond begun (Some (walk_at_end walk, [])) None ≡ Some read
        → length read.0.places ≡ length read.0.fields
    by_end true same =
        rw (← same_read (walk_at_end walk, []) read same)
        (rw (length-append walk.places (walk.held ∷ []), length-append walk.fields (walk.field ∷ []), is) refl)
    by_end false same = cc same
walk_is_whole walk (octet ∷ rest) read is e =
    let after : length (walk_after walk octet).places ≡ length (walk_after walk octet).fields
    = whole_by (step default_config walk.state octet).1 walk.fields walk.field walk.places _ is in
    by_end (ends_record walk octet) after (walk_is_whole (walk_after walk octet) rest read after) e
  where
    by_end : (ended : Bool) → length (walk_after walk octet).places ≡ length (walk_after walk octet).fields
        → (walk_to_end (walk_after walk octet) rest ≡ Some read → length read.0.places ≡ length read.0.fields)
        → cond ended (Some (walk_after walk octet, rest)) (walk_to_end (walk_after walk octet) rest) ≡ Some read
        → length read.0.places ≡ length read.0.fields
    by_end true after later same = rw (← same_read (walk_after walk octet, rest) read same) after
    by_end false after later same = later same

-- so are all
all_whole : (most : ℕ) (s : State) (at : Place) (octets : List ℕ)
    → AllByRecursion IsWhole (placed_from most s at octets)
unfolding placed_from
all_whole zero s at octets = tt
all_whole (suc most) s at octets = by_read (walk_to_end (fresh s at) octets) refl (all_whole most)
  where
    by_read : (read : Option (Walk × List ℕ)) → walk_to_end (fresh s at) octets ≡ read
        → ((s2 : State) (at2 : Place) (rest : List ℕ) → AllByRecursion IsWhole (placed_from most s2 at2 rest))
        → AllByRecursion IsWhole (placed_next (placed_from most) read)
    by_read None e later = tt
    by_read (Some read) e later =
        (walk_is_whole (fresh s at) octets read refl e, later read.0.state read.0.at read.1)

-- each placed record has a place for each field
pub placed_are_whole : (text : List ℕ) → AllByRecursion IsWhole (placed_of text)
placed_are_whole text = all_whole _ state.StartRecord (start_of text) _
