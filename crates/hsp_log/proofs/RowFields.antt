-- The fields of a record of a log.
use Rattle.std.proofs.Common.{◌≡◌, false, ℕ, List, [], ◌∷◌, Ok}
use Rattle.hsp_csv.specs.Header.{same_fields}
use Rattle.hsp_csv.specs.Records.{Fields}
use Rattle.hsp_csv.proofs.SameFields.{is_other}
use Rattle.hsp_log.specs.Log.{header_of, Gives, IsEntryIn, IsEventIn, IsFront}
use Rattle.hsp_log.specs.declared.form.Form.{Form}
use Rattle.hsp_log.specs.declared.form.Form.TheVariants.{Handles, Bodies}
use Rattle.hsp_log.specs.Entries.{Entry, Event}
use Rattle.hsp_names.specs.Handle.{handle_in}

-- a record that is neither of the headers
pub is_no_header : (fields : Fields) → same_fields fields (header_of Handles) ≡ false
    → same_fields fields (header_of Bodies) ≡ false → (form : Form) → fields ≡ header_of form → ⊥
is_no_header fields one other Handles same = is_other fields (header_of Handles) one same
is_no_header fields one other Bodies same = is_other fields (header_of Bodies) other same

-- a row of region and handle is the entry that it spells
pub spells : (form : Form) (row : Fields) (region field : List ℕ) (entry : Entry) → row ≡ region ∷ field ∷ []
    → entry.region ≡ region → Gives form field entry.handle
    → handle_in entry.handle ≡ Ok entry.handle → IsEntryIn form row entry
spells form row region field entry is same gives handle = rw is (same, gives, handle)

-- a row of front, region and handle is the event that it spells
pub spells_event : (row : Fields) (front region handle : List ℕ) (event : Event) → row ≡ front ∷ region ∷ handle ∷ []
    → IsFront front event.front
    → event.entry.region ≡ region → event.entry.handle ≡ handle → handle_in handle ≡ Ok handle → IsEventIn row event
spells_event row front region handle event is number same own good = rw is (number, same, own, good)
