-- Entries: each is an arc's server, and has 1,024 more where the arc is kept.
use Rattle.std.specs.Prelude.{◌≡◌, ◌≤◌, ◌<◌, ◌+◌, ◌%◌, ◌||◌, ℕ, Bool, false, not, List, [], ◌∷◌, drop, filter, length}
use Rattle.std.specs.Prelude.{map, nat_le, take, if◌then◌else◌}
use Rattle.std.specs.List.{AllByRecursion}
use Rattle.hsp_text.specs.declared.limits.TheConstants.{MOST_SERVERS}
use Rattle.hsp_instance.specs.RowArcs.{IsWithin}
use Rattle.hsp_instance.specs.declared.arc.Arc.{Arc}
use Rattle.hsp_prices.specs.KeptRows.{KeptArc, kept_if}
use Rattle.hsp_price_plan.specs.Regions.{shape_of}
use Rattle.hsp_price_plan.specs.declared.entries.TheConstants.{KEPT}
use Rattle.hsp_price_plan.specs.declared.region.SiteCost.{SiteCost}

-- the arc of an entry, and whether it is kept
abbrev pub entry_arc : SiteCost → ℕ → Arc
entry_arc at entry = record { site = at.site; server = entry % KEPT; cost = at.cost }

abbrev pub kept_arc : SiteCost → ℕ → KeptArc
kept_arc at entry = record { arc = entry_arc at entry; is_kept = nat_le KEPT entry }

-- the arcs of a row, by its entries: those past the sites of its region are not used
abbrev pub arcs_by : List SiteCost → List ℕ → List KeptArc
arcs_by [] entries = []
arcs_by (at ∷ shape) [] = []
arcs_by (at ∷ shape) (entry ∷ entries) = kept_arc at entry ∷ arcs_by shape entries

abbrev pub bare_arcs : List SiteCost → List ℕ → List Arc
bare_arcs shape entries = map (λ a. a.arc) (arcs_by shape entries)

-- they lead to servers below a number, at costs within their limit
abbrev pub LeadWithin : ℕ → List SiteCost → List ℕ → Type 0
LeadWithin servers shape entries = AllByRecursion (IsWithin servers) (bare_arcs shape entries)

-- how many arcs aren't kept
abbrev pub loose_count : List KeptArc → ℕ
loose_count arcs = length (filter (λ a. not a.is_kept) arcs)

-- ---- one row more

-- an arc that isn't kept
abbrev pub loose_arc : Arc → KeptArc
loose_arc arc = record { arc = arc; is_kept = false }

-- arcs lead to servers that have room in an entry
abbrev pub AreServers : List Arc → Type 0
AreServers arcs = AllByRecursion (λ arc. arc.server < MOST_SERVERS) arcs

-- so many entries are added, which are those of arcs that aren't kept
pub record IsPushed (old : List ℕ) (sites : ℕ) (arcs : List Arc) (new : List ℕ) : Type 0 where
  pub front : take (length old) new ≡ old
  pub many : length new ≡ length old + sites
  pub own : arcs_by (shape_of arcs) (drop (length old) new) ≡ map loose_arc arcs

-- ---- to keep more

-- an entry's arc is kept too where it passes, which counts where it wasn't kept
pub record IsKeptEntry (passes : Bool) (old new count : ℕ) : Type 0 where
  pub server : new % KEPT ≡ old % KEPT
  pub is_kept : nat_le KEPT new ≡ (nat_le KEPT old || passes)
  pub counted : count + (if nat_le KEPT new then 0 else 1) ≡ (if nat_le KEPT old then 0 else 1)

-- the arcs that pass a test are kept too, and so many of them weren't kept
pub record AreKept (test : Arc → Bool) (old new : List KeptArc) (count : ℕ) : Type 0 where
  pub arcs : new ≡ map (kept_if test) old
  pub counted : count + loose_count new ≡ loose_count old
  pub few : count ≤ length old
