-- The arcs of rows of any number, one row after another.
use Rattle.std.specs.Prelude.{◌≡◌, ◌≤◌, ◌<◌, ℕ, List, map, Vec}
use Rattle.std.specs.declared.alloc.Global.{Global}
use Rattle.std.specs.Str.{bytes_eq}
use Rattle.indexmap.specs.IndexSet.{insert_key}
use Rattle.hsp_tables.specs.Costs.{CostEntry}
use Rattle.hsp_text.specs.declared.limits.TheConstants.{GREATEST_COST}
use Rattle.hsp_instance.specs.Building.{arcs_from}
use Rattle.hsp_instance.specs.Instance.{Row, Site}
use Rattle.hsp_instance.specs.declared.arc.Arc.{Arc}

-- the names of regions that a map holds
abbrev pub names_of : {V : Type 0} → List (Vec ℕ Global × V) → List (List ℕ)
names_of known = map (λ entry. entry.0.items) known

-- regions in first-seen order, with one that may be among them
abbrev pub with_region : List (List ℕ) → List ℕ → List (List ℕ)
with_region regions region = insert_key bytes_eq regions region

-- the costs and sites that arcs are of, the regions of the rows so far, and the arcs of the last row
pub record ArcsInTurn : Type 0 where
  pub costs : List CostEntry
  pub sites : List Site
  pub regions : List (List ℕ)
  pub arcs : List Arc

-- an arc leads to one of so many servers, at a cost within its limit
pub record IsWithin (servers : ℕ) (arc : Arc) : Type 0 where
  pub server : arc.server < servers
  pub cost : arc.cost ≤ GREATEST_COST

abbrev pub row_named : List ℕ → List ℕ → ℕ → Row
row_named region handle count = record { region = region; handle = handle; count = count }

-- the arcs are those of a row of the region and the handle, whatever its count is
abbrev pub AreArcsOf : List CostEntry → List Site → List ℕ → List ℕ → List Arc → Type 0
AreArcsOf costs sites region handle arcs =
    (count : ℕ) → arcs ≡ arcs_from costs (row_named region handle count) 0 0 sites
