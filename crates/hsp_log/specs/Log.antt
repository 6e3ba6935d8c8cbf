-- The records of a log: a header, which states the form of the log, and rows, each of which spells an entry, or an
-- event at a front.
use Rattle.std.specs.List.{AllZip}
use Rattle.std.specs.Prelude.{◌≡◌, ◌≢◌, ℕ, List, [], ◌∷◌, codes, Ok}
use Rattle.hex.specs.Hex.{decode_of}
use Rattle.hsp_csv.specs.Records.{Fields}
use Rattle.hsp_csv.specs.declared.fault.RecordsFault.{RecordsFault}
use Rattle.hsp_csv.specs.declared.fault.RecordsFault.TheVariants as records_fault
use Rattle.hsp_names.specs.Handle.{handle_in}
use Rattle.hsp_record.specs.Fields.{Means}
use Rattle.hsp_record.specs.Request.{RequestBody, request_format}
use Rattle.hsp_text.specs.Whole.{whole_within}
use Rattle.hsp_log.specs.Entries.{Entry, Event}
use Rattle.hsp_log.specs.declared.form.Form.{Form}
use Rattle.hsp_log.specs.declared.form.Form.TheVariants.{Handles, Bodies}
use Rattle.hsp_log.specs.declared.fault.LogFault.{LogFault}
use Rattle.hsp_log.specs.declared.fault.LogFault.TheVariants as fault

-- the header of a form
abbrev pub header_of : Form → Fields
header_of Handles = codes "region" ∷ codes "handle" ∷ []
header_of Bodies = codes "region" ∷ codes "body" ∷ []

-- the header of a log of events
abbrev pub front_header : Fields
front_header = codes "front" ∷ codes "region" ∷ codes "handle" ∷ []

-- the octets of a handle that the second field of a row gives: the field itself, or the handle of the body of a
-- resolution request that its hexadecimal digits spell
abbrev pub Gives : Form → List ℕ → List ℕ → Type 0
Gives Handles field octets = octets ≡ field
Gives Bodies field octets =
    (body : List ℕ) × (request : RequestBody) × (decode_of field ≡ Ok body) × Means request_format body (Ok request)
    × (octets ≡ request.handle)

-- the entry that a row spells: two fields, the second of which gives a handle
abbrev pub IsEntryIn : Form → Fields → Entry → Type 0
IsEntryIn form [] entry = ⊥
IsEntryIn form (region ∷ []) entry = ⊥
IsEntryIn form (region ∷ field ∷ []) entry =
    (entry.region ≡ region) × Gives form field entry.handle × (handle_in entry.handle ≡ Ok entry.handle)
IsEntryIn form (region ∷ field ∷ third ∷ more) entry = ⊥

-- rows with their entries
abbrev pub AreEntries : Form → List Fields → List Entry → Type 0
AreEntries form rows entries = AllZip (IsEntryIn form) rows entries

-- a row whose second field gives no octets, or octets that are no handle
abbrev pub IsBadBody : Form → Fields → Type 0
IsBadBody form (region ∷ field ∷ []) = (octets : List ℕ) → Gives form field octets → ⊥
IsBadBody form [] = ⊥
IsBadBody form (region ∷ []) = ⊥
IsBadBody form (region ∷ field ∷ third ∷ more) = ⊥

abbrev pub IsBadHandle : Form → Fields → Type 0
IsBadHandle form (region ∷ field ∷ []) = (octets : List ℕ) × Gives form field octets × (handle_in octets ≢ Ok octets)
IsBadHandle form [] = ⊥
IsBadHandle form (region ∷ []) = ⊥
IsBadHandle form (region ∷ field ∷ third ∷ more) = ⊥

-- a read of the records that failed
abbrev pub fault_of : RecordsFault → LogFault
fault_of records_fault.ReadFailed = fault.ReadFailed
fault_of records_fault.OutOfMemory = fault.OutOfMemory

-- ---- events

-- the number of a front that a field spells
abbrev pub IsFront : List ℕ → ℕ → Type 0
IsFront field front = whole_within 4294967295 field ≡ Ok front

-- the event that a row spells: the number of a front, a region and a handle
abbrev pub IsEventIn : Fields → Event → Type 0
IsEventIn [] event = ⊥
IsEventIn (front ∷ []) event = ⊥
IsEventIn (front ∷ region ∷ []) event = ⊥
IsEventIn (front ∷ region ∷ handle ∷ []) event =
    IsFront front event.front × (event.entry.region ≡ region) × (event.entry.handle ≡ handle)
    × (handle_in handle ≡ Ok handle)
IsEventIn (front ∷ region ∷ handle ∷ fourth ∷ more) event = ⊥

-- rows with their events
abbrev pub AreEvents : List Fields → List Event → Type 0
AreEvents rows events = AllZip IsEventIn rows events

-- a row whose first field is no number of a front, or whose third is no handle
abbrev pub IsBadFront : Fields → Type 0
IsBadFront (front ∷ region ∷ handle ∷ []) = (number : ℕ) → IsFront front number → ⊥
IsBadFront [] = ⊥
IsBadFront (front ∷ []) = ⊥
IsBadFront (front ∷ region ∷ []) = ⊥
IsBadFront (front ∷ region ∷ handle ∷ fourth ∷ more) = ⊥

abbrev pub IsBadEvent : Fields → Type 0
IsBadEvent (front ∷ region ∷ handle ∷ []) = (number : ℕ) × IsFront front number × (handle_in handle ≢ Ok handle)
IsBadEvent [] = ⊥
IsBadEvent (front ∷ []) = ⊥
IsBadEvent (front ∷ region ∷ []) = ⊥
IsBadEvent (front ∷ region ∷ handle ∷ fourth ∷ more) = ⊥
