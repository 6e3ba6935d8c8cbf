-- What a responder answers that states the servers of the handles of a log.
use Rattle.std.specs.Prelude.{◌≡◌, ◌+◌, ◌-◌, ◌^◌, ◌&&◌, ⊤, ℕ, List, [], codes, length, min, nat_lt, Option, None, Some}
use Rattle.std.specs.Prelude.{Result, Ok, Err, if◌then◌else◌}
use Rattle.std.specs.Str.{bytes_eq}
use Rattle.csv.specs.Reading.{strip_bom}
use Rattle.hsp_text.specs.Answers.{◌>>=◌, or_fault, fault_as}
use Rattle.hsp_names.specs.Handle.{handle_in}
use Rattle.hsp_names.specs.declared.fault.HandleFault.TheVariants.{TooLong}
use Rattle.hsp_instance.specs.Instance.{Site}
use Rattle.hsp_talk.specs.declared.limits.TheConstants.{LONGEST_ROW}
use Rattle.hsp_talk.specs.declared.stop.Refusal.{Refusal}
use Rattle.hsp_talk.specs.declared.stop.Refusal.TheVariants as refusal
use Rattle.hsp_csv.specs.Row.{Shape, row_of}
use Rattle.hsp_csv.specs.Row.Shape.{blank, one, other, two}
use Rattle.hsp_stream.specs.PlaceLines.{header_line, place_lines}
use Rattle.hsp_log.specs.declared.fault.RowFault.{RowFault}
use Rattle.hsp_log.specs.declared.fault.RowFault.TheVariants.{BadHandle, Fields, Header}
use Rattle.hsp_log.specs.declared.form.HandleForm.{HandleForm}
use Rattle.hsp_log.specs.declared.form.HandleForm.TheVariants.{Handle, RegionAndHandle}

-- ---- rows

-- the form of the rows of a log, by the fields of its header
abbrev pub form_of : Shape → Option HandleForm
form_of blank = None
form_of (one only) = if bytes_eq only (codes "handle") then Some Handle else None
form_of (two first second) =
    if bytes_eq first (codes "region") && bytes_eq second (codes "handle") then Some RegionAndHandle else None
form_of other = None

-- the form by the first row, after a byte order mark: none yet where the row is blank
abbrev pub header_by : Shape → Result (Option HandleForm) RowFault
header_by blank = Ok None
header_by (one only) = or_fault Header (form_of (one only)) >>= λ form. Ok (Some form)
header_by (two first second) = or_fault Header (form_of (two first second)) >>= λ form. Ok (Some form)
header_by other = Err Header

abbrev pub header_in : List ℕ → Result (Option HandleForm) RowFault
header_in line = header_by (row_of (strip_bom line))

-- what a row of such a form gives as its handle
abbrev pub handle_field : HandleForm → Shape → Option (List ℕ)
handle_field Handle (one only) = Some only
handle_field Handle blank = None
handle_field Handle (two first second) = None
handle_field Handle other = None
handle_field RegionAndHandle (two first second) = Some second
handle_field RegionAndHandle blank = None
handle_field RegionAndHandle (one only) = None
handle_field RegionAndHandle other = None

-- the handle of the row of a number, or its fault
abbrev pub handle_at : ℕ → Option (List ℕ) → Result (Option (List ℕ)) RowFault
handle_at number field =
    or_fault (Fields number) field >>= λ octets. fault_as (BadHandle number) (handle_in octets) >>= λ handle.
    Ok (Some handle)

-- the same of a row of any shape: a blank row has none
abbrev pub handle_by : ℕ → HandleForm → Shape → Result (Option (List ℕ)) RowFault
handle_by number form blank = Ok None
handle_by number form (one only) = handle_at number (handle_field form (one only))
handle_by number form (two first second) = handle_at number (handle_field form (two first second))
handle_by number form other = Err (Fields number)

abbrev pub handle_in_row : ℕ → HandleForm → List ℕ → Result (Option (List ℕ)) RowFault
handle_in_row number form line =
    if nat_lt LONGEST_ROW (length line) then Err (BadHandle number TooLong) else handle_by number form (row_of line)

-- the answer, seen by view, is what is given, unless memory ran out
abbrev pub GivesOrRefuses : {X Y F : Type 0} → (X → Y) → Result X (Refusal F) → Result Y F → Type 0
GivesOrRefuses view (Ok x) given = given ≡ Ok (view x)
GivesOrRefuses view (Err (refusal.Fault fault)) given = given ≡ Err fault
GivesOrRefuses view (Err refusal.OutOfMemory) given = ⊤

-- ---- the responder

-- the sites, the form of the rows once there was a header, and how many rows came after it
pub record PlacesState : Type 0 where
  pub sites : List Site
  pub form : Option HandleForm
  pub rows : ℕ

abbrev pub at_start : List Site → PlacesState
at_start sites = record { sites = sites; form = None; rows = 0 }

-- a state and an answer
abbrev pub Step : Type 0
Step = Result (PlacesState × List ℕ) RowFault

-- the header comes, or not yet
abbrev pub headed : PlacesState → Option HandleForm → Step
headed at None = Ok (at, [])
headed at (Some form) = Ok (record at { form = Some form }, header_line)

-- a handle is answered by a line for each site; rows are numbered up to 2^64 - 1
abbrev pub answered : PlacesState → Option (List ℕ) → Step
answered at None = Ok (at, [])
answered at (Some handle) = Ok (record at { rows = min (at.rows + 1) (2 ^ 64 - 1) }, place_lines handle at.sites)

abbrev pub step_by : PlacesState → Option HandleForm → List ℕ → Step
step_by at None line = header_in line >>= headed at
step_by at (Some form) line = handle_in_row at.rows form line >>= answered at

-- what a responder answers to a row
abbrev pub step : PlacesState → List ℕ → Step
step at line = step_by at at.form line

abbrev pub TakesHandle : PlacesState → List ℕ → PlacesState → List ℕ → Type 0
TakesHandle old line new answer = step old line ≡ Ok (new, answer)

abbrev pub RefusesHandle : PlacesState → List ℕ → PlacesState → RowFault → Type 0
RefusesHandle old line new fault = step old line ≡ Err fault
