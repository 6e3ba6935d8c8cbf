-- What a set of rows may use, over arcs with flows.
use Rattle.std.specs.Prelude.{ℕ, ◌==◌, ◌&&◌, Bool, List, filter, length}
use Rattle.std.specs.List.{list_any, range_with_len}
use Rattle.hsp_check.specs.declared.lists.FlowLists.{FlowLists}
use Rattle.hsp_check.specs.declared.sums.ArcFlow.{ArcFlow}
use Rattle.hsp_check.specs.ArcFlows.{flag_at}
use Rattle.hsp_check.specs.Lists.{AreFlagsOf, AreRooms}

-- whether an arc leads from a row of the set to the server
abbrev pub arcs_reach : List ArcFlow → (ℕ → Bool) → ℕ → Bool
arcs_reach arc_flows rows j = list_any (λ l. rows l.arc.row && l.arc.server == j) arc_flows

-- a flag for each server, set where a row of the set may use it
abbrev pub AreReached : FlowLists → (ℕ → Bool) → List Bool → Type 0
AreReached lists rows reached = AreFlagsOf (arcs_reach lists.arc_flows.now rows) (length lists.capacities.now) reached

-- the capacity of each server that a row of the set may use, 0 for the others
abbrev pub AreRoomsOf : FlowLists → (ℕ → Bool) → List ℕ → Type 0
AreRoomsOf lists rows rooms = AreRooms lists.capacities.now (arcs_reach lists.arc_flows.now rows) rooms

-- the places of the flags that are set, in ascending order
abbrev pub flagged_places : List Bool → List ℕ
flagged_places flags = filter (flag_at flags) (range_with_len 0 (length flags))
