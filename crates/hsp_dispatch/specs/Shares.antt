-- What a dispatcher holds: for each row, how many of its queries are left for which site. The shares of fronts are
-- defined in Fronts.antt.
use Rattle.std.specs.Prelude.{◌≡◌, ◌-◌, ◌<◌, ◌==◌, ⊤, true, ℕ, List, [], ◌∷◌, length, slice_index_or, All, Option, None}
use Rattle.std.specs.Prelude.{Some, if◌then◌else◌}
use Rattle.std.specs.List.{AllByRecursion, list_all, slice_get}
use Rattle.hsp_instance.specs.Instance.{Instance, IsInstance}
use Rattle.hsp_instance.specs.declared.arc.Arc.{Arc}
use Rattle.hsp_check.specs.Instance.{network_of}
use Rattle.hsp_check.specs.Network.{is_allowed}
use Rattle.hsp_check.specs.Plan.{Plan}
use Rattle.hsp_check.specs.Uses.{table}
use Rattle.hsp_check.specs.Valid.{IsValidPlan}
use Rattle.hsp_cert.specs.Certificate.{Claim, ascends, is_before, is_use}
use Rattle.hsp_cert.specs.Certificate.Claim.{best, short}
use Rattle.hsp_cert.specs.declared.use_line.UseLine.{UseLine}
use Rattle.hsp_log.specs.Entries.{Entry}
use Rattle.hsp_dispatch.specs.Dispatch.{IsSame, answer_at, answer_to, arc_to, rest, row_of, spread}
use Rattle.hsp_dispatch.specs.Lines.{served_by}
use Rattle.hsp_dispatch.specs.declared.answer.Answer.{Answer}
use Rattle.hsp_dispatch.specs.declared.answer.Answer.TheVariants.{Spent}
use Rattle.hsp_dispatch.specs.declared.share.Cell.{Cell}

-- what is left at a site, 0 where no cell is of it
abbrev pub left_at : List Cell → ℕ → ℕ
left_at [] site = 0
left_at (cell ∷ cells) site = if cell.site == site then cell.left else left_at cells site

-- in ascending order of the sites, and nothing is used up
abbrev pub AreCells : List Cell → Type 0
AreCells [] = ⊤
AreCells (cell ∷ cells) =
    (0 < cell.left) × (AllByRecursion (λ (later : Cell). cell.site < later.site) cells × AreCells cells)

-- the first cell
abbrev pub first_of : List Cell → Option Cell
first_of [] = None
first_of (cell ∷ cells) = Some cell

-- a first cell, where something is left in it, and more
abbrev pub with_first : Cell → List Cell → List Cell
with_first cell cells = if cell.left == 0 then [] else cell ∷ cells

-- the cells without the first of what is left
abbrev pub without_first : List Cell → List Cell
without_first [] = []
without_first (cell ∷ cells) = if cell.left == 1 then cells else record cell { left = cell.left - 1 } ∷ cells

-- an instance, and for each of its rows the cells that are left
pub record Held : Type 0 where
  pub instance : Instance
  pub shares : List (List Cell)

-- the cells of a row, none where there is no such row
abbrev pub cells_at : List (List Cell) → ℕ → List Cell
cells_at shares row = slice_index_or shares row []

-- the table that is held
abbrev pub left_of : Held → Plan
left_of held row site = left_at (cells_at held.shares row) site

-- a cell is of a site of the instance, and of the server at which the row's arc to it ends
pub record IsCellOf (it : Instance) (row : ℕ) (cell : Cell) : Type 0 where
  pub site : cell.site < length it.sites
  pub arc : Arc
  pub is_arc : arc_to cell.site (slice_get it.arcs row) ≡ Some arc
  pub server : arc.server ≡ cell.server
  pub there : cell.server < length it.servers

pub record AreCellsOf (it : Instance) (row : ℕ) (cells : List Cell) : Type 0 where
  pub each : AllByRecursion (IsCellOf it row) cells
  pub are : AreCells cells

-- the instance is within its limits, and there are cells for each row
pub record IsHeld (held : Held) : Type 0 where
  pub within : IsInstance held.instance
  pub one_a_row : length held.shares ≡ length held.instance.rows
  pub each : (row : ℕ) → AreCellsOf held.instance row (cells_at held.shares row)

-- the claim is that of a plan, and valid for the instance
abbrev pub IsPlanFor : Instance → Claim → Type 0
IsPlanFor it (best c) = IsValidPlan (network_of it) c
IsPlanFor it (short c) = ⊥

-- the table of a claim's plan
abbrev pub plan_of : Claim → Plan
plan_of (best c) row site = table c.uses row site
plan_of (short c) row site = 0

-- ---- the shares that a plan gives

-- the number of the server at which an arc ends, 0 where there is no arc
abbrev pub number_of : Option Arc → ℕ
number_of None = 0
number_of (Some arc) = arc.server

-- the cell that a use gives its row
abbrev pub cell_of : Instance → UseLine → Cell
cell_of it one =
    record { site = one.site; server = number_of (arc_to one.site (slice_get it.arcs one.row)); left = one.count }

-- the cells that uses give a row
abbrev pub cells_of : Instance → ℕ → List UseLine → List Cell
cells_of it row [] = []
cells_of it row (one ∷ uses) = if one.row == row then cell_of it one ∷ cells_of it row uses else cells_of it row uses

-- the shares of the rows of an instance
abbrev pub holding : Instance → List (List Cell) → Held
holding it shares = record { instance = it; shares = shares }

-- what is left is the table of the uses
abbrev pub HoldsTable : List UseLine → Held → Type 0
HoldsTable uses held = IsSame (left_of held) (table uses)

-- uses in order and within their ranges, each of which goes where it may
pub record AreUsesOf (it : Instance) (uses : List UseLine) : Type 0 where
  pub order : ascends is_before uses ≡ true
  pub ranges : list_all is_use uses ≡ true
  pub allowed : All (λ u. is_allowed (network_of it) u.row u.site ≡ true) uses

-- the answer where the query goes to the server of a number, Spent where it goes to none
abbrev pub taken_answer : Instance → Option ℕ → Answer
taken_answer it None = Spent
taken_answer it (Some number) = served_by (slice_get it.servers number)

-- the answer to a query by what is left
abbrev pub answer_by : Held → Entry → Answer
answer_by held entry = answer_to held.instance (left_of held) [] entry

-- the answer by the first of what is left of a row
abbrev pub first_answer : Held → ℕ → Answer
first_answer held row = answer_at held.instance row (slice_get (spread held.instance (left_of held) row) 0)

-- what a query leaves
abbrev pub rest_of : Held → Entry → Plan
rest_of held entry = rest held.instance (left_of held) (entry ∷ [])

-- what is left is what the query leaves
abbrev pub IsLeftBy : Held → Entry → Held → Type 0
IsLeftBy held entry new = IsSame (left_of new) (rest_of held entry)

-- what is left is what a query for the row leaves
abbrev pub IsRestOf : Held → ℕ → Held → Type 0
IsRestOf held row new = (entry : Entry) → row_of held.instance entry ≡ Some row → IsLeftBy held entry new
