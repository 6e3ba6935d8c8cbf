-- What holds of the places that are printed.
use Rattle.std.specs.Prelude.{◌≡◌, ◌≤◌, ◌⊎◌, ℕ, List, [], ◌∷◌, ◌++◌, codes, length}
use Rattle.std.specs.List.{flat_map}
use Rattle.csv.specs.Reading.{strip_bom}
use Rattle.hsp_names.specs.Handle.{IsHandle}
use Rattle.hsp_instance.specs.Instance.{Site}
use Rattle.hsp_csv.specs.Row.{Shape, row_of}
use Rattle.hsp_csv.specs.Row.Shape.{blank, one, two}
use Rattle.hsp_talk.specs.Talk.{Event, rows_in, sent_in}
use Rattle.hsp_talk.specs.declared.limits.TheConstants.{LONGEST_ROW}
use Rattle.hsp_stream.specs.PlaceLines.{header_line, place_lines}
use Rattle.hsp_stream.specs.PlacesRun.{AreAnswered}
use Rattle.hsp_log.specs.declared.form.HandleForm.{HandleForm}
use Rattle.hsp_log.specs.declared.form.HandleForm.TheVariants.{Handle, RegionAndHandle}

-- the header of a log of this form
abbrev pub header_of : HandleForm → Shape
header_of Handle = one (codes "handle")
header_of RegionAndHandle = two (codes "region") (codes "handle")

-- the fields of a row of this form, with this handle
abbrev pub HasHandle : HandleForm → List ℕ → List ℕ → Type 0
HasHandle Handle row handle = row_of row ≡ one handle
HasHandle RegionAndHandle row handle = (region : List ℕ) × (row_of row ≡ two region handle)

-- a row that is not too long gives a handle (RFC 3651, section 2)
pub record GivesHandle (form : HandleForm) (row handle : List ℕ) : Type 0 where
  pub whole : length row ≤ LONGEST_ROW
  pub field : HasHandle form row handle
  pub authority : List ℕ
  pub local : List ℕ
  pub is : IsHandle handle authority local

-- these are the handles of rows behind the header, one a row, where blank rows have none
abbrev pub HandlesOf : HandleForm → List (List ℕ) → List (List ℕ) → Type 0
HandlesOf form [] handles = handles ≡ []
HandlesOf form (row ∷ rows) handles =
    ((row_of row ≡ blank) × HandlesOf form rows handles)
    ⊎ ((handle : List ℕ) × (more : List (List ℕ)) × GivesHandle form row handle × HandlesOf form rows more
    × (handles ≡ handle ∷ more))

-- these are the handles of the rows of a log: the first row that isn't blank, after a byte order mark, is the header
abbrev pub HandlesIn : List (List ℕ) → List (List ℕ) → Type 0
HandlesIn [] handles = ⊥
HandlesIn (row ∷ rows) handles =
    ((row_of (strip_bom row) ≡ blank) × HandlesIn rows handles)
    ⊎ ((form : HandleForm) × (row_of (strip_bom row) ≡ header_of form) × HandlesOf form rows handles)

-- Where all rows of a log were answered, its handles were, in the order of their rows: the header line was sent, for
-- each handle a line for each site, and nothing else.
abbrev pub PlacesArePrinted : Type 0
PlacesArePrinted =
    (sites : List Site) (events : List Event) → AreAnswered sites events
    → (handles : List (List ℕ)) × HandlesIn (rows_in events) handles
    × (sent_in events ≡ header_line ++ flat_map (λ handle. place_lines handle sites) handles)
