-- The rows of a log, read without an answer.
use Rattle.std.specs.Prelude.{◌≡◌, ℕ, Option, Some, None, ◌≢◌, length}
use Rattle.hsp_csv.specs.Records.{Fields}
use Rattle.hsp_log.specs.Entries.{Entry, Event}
use Rattle.hsp_log.specs.Log.{IsEntryIn, IsEventIn, front_header, header_of, IsBadBody, IsBadEvent, IsBadFront}
use Rattle.hsp_log.specs.Log.{IsBadHandle}
use Rattle.hsp_log.specs.declared.fault.LogFault.{LogFault}
use Rattle.hsp_log.specs.declared.fault.LogFault.TheVariants as fault
use Rattle.hsp_log.specs.declared.form.Form.TheVariants.{Handles}
use Rattle.hsp_log.specs.declared.form.LogForm.{LogForm}
use Rattle.hsp_log.specs.declared.form.LogForm.TheVariants as form
use Rattle.hsp_log.specs.declared.form.Form.{Form}

-- the header of a log
abbrev pub log_header : LogForm → Fields
log_header (form.Entries entries) = header_of entries
log_header form.Events = front_header

-- a row spells what its log has
abbrev pub IsSpelled : LogForm → Fields → Type 0
IsSpelled (form.Entries entries) fields = (entry : Entry) × IsEntryIn entries fields entry
IsSpelled form.Events fields = (event : Event) × IsEventIn fields event

-- a row of two fields that spells no entry, or a row of another number of fields
abbrev pub RefusesEntry : Form → Fields → LogFault → Type 0
RefusesEntry form bad (fault.Fields row) = length bad ≢ 2
RefusesEntry form bad (fault.BadBody row) = IsBadBody form bad
RefusesEntry form bad (fault.BadHandle row) = IsBadHandle form bad
RefusesEntry form bad other = ⊥

-- a row of three fields that spells no event, or a row of another number of fields
abbrev pub RefusesEvent : Form → Fields → LogFault → Type 0
RefusesEvent form bad (fault.Fields row) = length bad ≢ 3
RefusesEvent form bad (fault.BadFront row) = IsBadFront bad
RefusesEvent form bad (fault.BadHandle row) = IsBadEvent bad
RefusesEvent form bad other = ⊥

-- a row of another number of fields, or one that spells none, by the fault of its first bad field
abbrev pub RefusesRow : LogForm → Fields → LogFault → Type 0
RefusesRow (form.Entries entries) bad why = RefusesEntry entries bad why
RefusesRow form.Events bad why = RefusesEvent Handles bad why

-- the fault names the row
abbrev pub IsRowRefused : LogForm → ℕ → Fields → LogFault → Type 0
IsRowRefused log number bad (fault.Fields row) = (row ≡ number) × RefusesRow log bad (fault.Fields row)
IsRowRefused log number bad (fault.BadFront row) = (row ≡ number) × RefusesRow log bad (fault.BadFront row)
IsRowRefused log number bad (fault.BadBody row) = (row ≡ number) × RefusesRow log bad (fault.BadBody row)
IsRowRefused log number bad (fault.BadHandle row) = (row ≡ number) × RefusesRow log bad (fault.BadHandle row)
IsRowRefused log number bad other = ⊥

-- the number of the field at fault
abbrev pub field_at_fault : LogForm → LogFault → Option ℕ
field_at_fault form.Events (fault.BadFront row) = Some 0
field_at_fault form.Events (fault.BadHandle row) = Some 2
field_at_fault (form.Entries entries) (fault.BadBody row) = Some 1
field_at_fault (form.Entries entries) (fault.BadHandle row) = Some 1
field_at_fault log other = None
