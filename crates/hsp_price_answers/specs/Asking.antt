-- What the rows of a log ask: a header in front, and behind it one query a row.
use Rattle.std.specs.Prelude.{◌≡◌, ◌≤◌, ◌<◌, ◌⊎◌, Bool, false, true, ℕ, List, [], ◌∷◌, length, Option, None, Some}
use Rattle.std.specs.Prelude.{Result, Ok, Err}
use Rattle.csv.specs.Reading.{strip_bom}
use Rattle.hsp_names.specs.Handle.{handle_in}
use Rattle.hsp_names.specs.declared.fault.HandleFault.{HandleFault}
use Rattle.hsp_log.specs.Entries.{Entry, query as query_for}
use Rattle.hsp_log.specs.Log.{Gives, header_of}
use Rattle.hsp_log.specs.declared.form.Form.{Form}
use Rattle.hsp_record.specs.Fields.{Means}
use Rattle.hsp_record.specs.Request.{RequestBody, request_format}
use Rattle.hsp_csv.specs.Row.{Shape, row_of}
use Rattle.hsp_csv.specs.Row.Shape.{blank, one, two, other}
use Rattle.hsp_talk.specs.declared.limits.TheConstants.{LONGEST_ROW}
use Rattle.hsp_price_answers.specs.declared.asking.AskedRow.{AskedRow}
use Rattle.hsp_price_answers.specs.declared.asking.AskedRow.TheVariants as lent
use Rattle.hsp_price_answers.specs.declared.row_refusal.RowRefusal.{RowRefusal}
use Rattle.hsp_price_answers.specs.declared.row_refusal.RowRefusal.TheVariants.{BadBody, BadHandle, Fields, TooLong}

-- a row asks nothing, or for an answer to an entry, or it is refused
pub data Asked : Type 0 where
  nothing : Asked
  query : Entry → Asked
  bad : RowRefusal → Asked

-- what a lent row asks
abbrev pub asked_of : AskedRow → Asked
asked_of lent.Nothing = nothing
asked_of (lent.Query region handle) = query (query_for region.now handle)
asked_of (lent.Refused refusal) = bad refusal

-- the queries of what is asked
abbrev pub queries_in : List Asked → List Entry
queries_in [] = []
queries_in (nothing ∷ more) = queries_in more
queries_in (query entry ∷ more) = entry ∷ queries_in more
queries_in (bad refusal ∷ more) = queries_in more

abbrev pub is_refused : Asked → Bool
is_refused nothing = false
is_refused (query entry) = false
is_refused (bad refusal) = true

-- what a region asks with octets that may be a handle
abbrev pub asked_with : List ℕ → Result (List ℕ) HandleFault → Asked
asked_with region (Ok handle) = query (record { region = region; handle = handle })
asked_with region (Err fault) = bad (BadHandle fault)

-- what a region asks with octets that may be the body of a resolution request
abbrev pub AsksByBody : List ℕ → List ℕ → Asked → Type 0
AsksByBody region body asked =
    ((request : RequestBody) × Means request_format body (Ok request)
    × (asked ≡ asked_with region (handle_in request.handle)))
    ⊎ (((request : RequestBody) → Means request_format body (Ok request) → ⊥) × (asked ≡ bad BadBody))

-- what a region asks with a field that gives the octets of a handle, or gives none
abbrev pub AsksByField : Form → List ℕ → List ℕ → Asked → Type 0
AsksByField form region field asked =
    ((octets : List ℕ) × Gives form field octets × (asked ≡ asked_with region (handle_in octets)))
    ⊎ (((octets : List ℕ) → Gives form field octets → ⊥) × (asked ≡ bad BadBody))

-- what the fields of a row ask
abbrev pub AsksByFields : Form → Shape → Asked → Type 0
AsksByFields form blank asked = asked ≡ nothing
AsksByFields form (one only) asked = asked ≡ bad Fields
AsksByFields form (two region field) asked = AsksByField form region field asked
AsksByFields form other asked = asked ≡ bad Fields

-- what a row asks
abbrev pub Asks : Form → List ℕ → Asked → Type 0
Asks form row asked =
    ((LONGEST_ROW < length row) × (asked ≡ bad TooLong))
    ⊎ ((length row ≤ LONGEST_ROW) × AsksByFields form (row_of row) asked)

-- the form that a row states as a header; a blank row states none
abbrev pub States : Shape → Option Form → Type 0
States blank next = next ≡ None
States (one only) next = ⊥
States (two first second) next = (form : Form) × (first ∷ second ∷ [] ≡ header_of form) × (next ≡ Some form)
States other next = ⊥

-- the same of a row that may begin with a byte order mark
abbrev pub IsHeader : List ℕ → Option Form → Type 0
IsHeader row next = States (row_of (strip_bom row)) next

-- what a row asks, before the header and behind it, and the form that is known then
abbrev pub AsksAt : Option Form → List ℕ → Asked → Option Form → Type 0
AsksAt None row asked next = IsHeader row next × (asked ≡ nothing)
AsksAt (Some form) row asked next = Asks form row asked × (next ≡ Some form)

-- what rows ask in turn
abbrev pub AreAsked : Option Form → List (List ℕ) → List Asked → Option Form → Type 0
AreAsked first [] [] last = last ≡ first
AreAsked first [] (asked ∷ more) last = ⊥
AreAsked first (row ∷ rows) [] last = ⊥
AreAsked first (row ∷ rows) (asked ∷ more) last =
    (next : Option Form) × AsksAt first row asked next × AreAsked next rows more last

-- a row before the header that is neither blank nor a header
abbrev pub IsNoHeader : Option Form → List ℕ → Type 0
IsNoHeader form row = (form ≡ None) × ((next : Option Form) → IsHeader row next → ⊥)
