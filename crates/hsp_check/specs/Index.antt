-- The arcs of a network row by row.
use Rattle.std.specs.Prelude.{◌≡◌, ℕ, ◌+◌, ◌*◌, ◌<◌, ◌≤◌, ◌==◌, ◌&&◌, Bool, List, length, map, slice_index}
use Rattle.std.specs.Prelude.{slice_index_or}
use Rattle.std.specs.List.{list_any}
use Rattle.hsp_text.specs.declared.limits.TheConstants.{MOST_SITES}
use Rattle.hsp_cert.specs.declared.use_line.UseLine.{UseLine}
use Rattle.hsp_instance.specs.declared.arc.Arc.{Arc}
use Rattle.hsp_check.specs.declared.arc.NetworkArc.{NetworkArc}
use Rattle.hsp_check.specs.declared.indexing.IndexedArcs.{IndexedArcs}
use Rattle.hsp_check.specs.declared.sums.ArcFlow.{ArcFlow}
use Rattle.hsp_check.specs.Instance.{arc_of, arcs_from}
use Rattle.hsp_check.specs.Uses.{table}

-- what stands past the end of the arcs
abbrev pub no_arc : ArcFlow
no_arc = record { arc = record { row = 0; site = 0; server = 0; cost = 0 }; flow = 0 }

abbrev pub arc_at : List ArcFlow → ℕ → NetworkArc
arc_at arc_flows k = (slice_index_or arc_flows k no_arc).arc

abbrev pub flow_at : List ArcFlow → ℕ → ℕ
flow_at arc_flows k = (slice_index_or arc_flows k no_arc).flow

-- the arcs of row i are those from starts[i] up to starts[i + 1], each at another site
pub record ByRow (rows : ℕ) (arc_flows : List ArcFlow) (starts : List ℕ) : Type 0 where
  pub starts_many : length starts ≡ rows + 1
  pub ordered : (i : ℕ) → i < rows → slice_index starts i ≤ slice_index starts (i + 1)
  pub within : (i : ℕ) → i < rows → slice_index starts (i + 1) ≤ length arc_flows
  pub own : (i k : ℕ) → i < rows → slice_index starts i ≤ k → k < slice_index starts (i + 1)
      → (arc_at arc_flows k).row ≡ i
  pub rows_in : (k : ℕ) → k < length arc_flows → (arc_at arc_flows k).row < rows
  pub from : (k : ℕ) → k < length arc_flows → slice_index starts (arc_at arc_flows k).row ≤ k
  pub upto : (k : ℕ) → k < length arc_flows → k < slice_index starts ((arc_at arc_flows k).row + 1)
  pub apart : (k m : ℕ) → k < length arc_flows → m < length arc_flows
      → (arc_at arc_flows k).row ≡ (arc_at arc_flows m).row → (arc_at arc_flows k).site ≡ (arc_at arc_flows m).site
      → k ≡ m

-- the place of a row's arc to a site
abbrev pub IsPlaceOf : List ArcFlow → ℕ → ℕ → ℕ → Type 0
IsPlaceOf arc_flows row site k =
    (k < length arc_flows) × ((arc_at arc_flows k).row ≡ row) × ((arc_at arc_flows k).site ≡ site)

-- no arc leads from the row to the site
abbrev pub HasNoPlace : List ArcFlow → ℕ → ℕ → Type 0
HasNoPlace arc_flows row site =
    (k : ℕ) → k < length arc_flows → (arc_at arc_flows k).row ≡ row → (arc_at arc_flows k).site ≡ site → ⊥

-- the use goes over an arc
pub record HasArc (arc_flows : List ArcFlow) (one : UseLine) : Type 0 where
  pub place : ℕ
  pub inside : place < length arc_flows
  pub row : (arc_at arc_flows place).row ≡ one.row
  pub site : (arc_at arc_flows place).site ≡ one.site

-- the same as a test
abbrev pub has_arc : List ArcFlow → UseLine → Bool
has_arc arc_flows one = list_any (λ a. a.row == one.row && a.site == one.site) (map (λ l. l.arc) arc_flows)

abbrev pub use_at : List UseLine → ℕ → UseLine
use_at uses i = slice_index_or uses i (record { row = 0; site = 0; count = 0 })

-- every use goes over an arc
abbrev pub HaveArcs : List ArcFlow → List UseLine → Type 0
HaveArcs arc_flows uses = (i : ℕ) → i < length uses → HasArc arc_flows (use_at uses i)

-- some use goes over none
abbrev pub LacksAnArc : List ArcFlow → List UseLine → Type 0
LacksAnArc arc_flows uses = (i : ℕ) × (i < length uses) × (HasArc arc_flows (use_at uses i) → ⊥)

-- nothing uses the arcs yet
abbrev pub AreBare : List ArcFlow → Type 0
AreBare arc_flows = (k : ℕ) → k < length arc_flows → flow_at arc_flows k ≡ 0

-- what flows on the arcs is what the uses give them
abbrev pub AreUsedBy : List UseLine → List ArcFlow → List ArcFlow → Type 0
AreUsedBy uses arcs arc_flows =
    (k : ℕ) → k < length arcs → flow_at arc_flows k ≡ table uses (arc_at arcs k).row (arc_at arcs k).site

-- an arc of a row that nothing uses yet
abbrev pub bare_arc : ℕ → Arc → ArcFlow
bare_arc i a = record { arc = arc_of i a; flow = 0 }

-- the arcs of lists, one for each row, with no flow on them
pub record IsIndexed (lists : List (List Arc)) (arc_flows : List ArcFlow) (starts : List ℕ) : Type 0 where
  pub by_row : ByRow (length lists) arc_flows starts
  pub last : slice_index starts (length lists) ≡ length arc_flows
  pub arcs : map (λ l. l.arc) arc_flows ≡ arcs_from 0 lists
  pub bare : AreBare arc_flows
  pub few : length arc_flows ≤ length lists * MOST_SITES

-- the same of arcs with the run of each row among them
abbrev pub AreByRow : IndexedArcs → Type 0
AreByRow arcs = (rows : ℕ) × ByRow rows arcs.arc_flows.items arcs.runs
