-- What a set of rows asks for, and what it can reach.
use Rattle.std.proofs.Common.{◌≡◌, ℕ, ◌+◌, ◌<◌, ◌==◌, ap, ap₂, refl, List, [], ◌∷◌, length, slice_index, sym}
use Rattle.std.proofs.Common.{slice_index_or, All, is_none, min, if◌then◌else◌, Bool, ◌∙◌}
use Rattle.std.specs.Prelude.{◌&&◌, ◌||◌, map}
use Rattle.std.specs.List.{list_any}
use Rattle.std.proofs.Math.Path.{fun_ext}
use Rattle.std.proofs.lemmas.List.Elements.{All-head, All-tail}
use Rattle.hsp_check.specs.declared.arc.NetworkArc.{NetworkArc}
use Rattle.hsp_check.specs.declared.sums.ArcFlow.{ArcFlow}
use Rattle.hsp_check.specs.declared.lists.FlowLists.{FlowLists}
use Rattle.hsp_transport.specs.Sums.{sum_below}
use Rattle.hsp_check.specs.Network.{Network, transport}
use Rattle.hsp_check.specs.Plan.{on_host}
use Rattle.hsp_check.specs.Short.{capacity_of, demand_of}
use Rattle.hsp_transport.specs.Cut.{reached_capacity}
use Rattle.hsp_check.specs.ArcFlows.{flag_at}
use Rattle.hsp_check.specs.Reached.{AreRoomsOf}
use Rattle.hsp_check.specs.Reach.{network_in}
use Rattle.hsp_transport.proofs.Summing.{sum_below_same}
use Rattle.hsp_check.proofs.FlowSums.{on_arcs}

-- a test of the arcs only
pub any_of_arcs : (test : NetworkArc → Bool) (arc_flows : List ArcFlow)
    → list_any test (map (λ l. l.arc) arc_flows) ≡ list_any (λ l. test l.arc) arc_flows
any_of_arcs test [] = refl
any_of_arcs test (one ∷ arc_flows) = ap (λ b. test one.arc || b) (any_of_arcs test arc_flows)

-- the room of each server that the rows reach
pub rooms_are : (lists : FlowLists) (rows : ℕ → Bool) (rooms : List ℕ) → AreRoomsOf lists rows rooms →
    (j : ℕ) → j < length lists.capacities.now
    → slice_index rooms j ≡ reached_capacity (transport (network_in lists)) rows j
rooms_are lists rows rooms given j l =
    given j l
    ∙ ap (λ b. if b then slice_index lists.capacities.now j else 0)
    (sym (any_of_arcs (λ a. rows a.row && a.server == j) lists.arc_flows.now))

-- tests that agree on the elements find the same
pub any_same : {A : Type 0} (p q : A → Bool) (xs : List A) → All (λ x. p x ≡ q x) xs → list_any p xs ≡ list_any q xs
any_same p q [] same = refl
any_same p q (x ∷ xs) same =
    ap₂ (λ a b. a || b) (All-head (λ y. p y ≡ q y) x xs same) (any_same p q xs (All-tail (λ y. p y ≡ q y) x xs same))

-- sets that agree on the rows of the arcs reach the same
pub same_capacity : (n : Network) (f g : ℕ → Bool) → All (λ a. f a.row ≡ g a.row) n.arcs
    → capacity_of n f ≡ capacity_of n g
same_capacity n f g same =
    let rooms : reached_capacity (transport n) f ≡ reached_capacity (transport n) g =
    fun_ext (λ j. ap (λ b. if b then slice_index n.capacities j else 0)
    (any_same (λ a. f a.row && a.server == j) (λ a. g a.row && a.server == j) n.arcs
    (λ k d l. ap (λ b. b && (slice_index_or n.arcs k d).server == j) (same k d l)))) in
    ap (λ (r : ℕ → ℕ).
    sum_below (length n.capacities) (λ j. if is_none (n.host_of j) then r j else 0)
    + sum_below (length n.limits) (λ h. min (slice_index n.limits h) (on_host n r h))) rooms

-- what the flagged rows can reach is what the chosen ones can
pub chosen_capacity : (lists : FlowLists) (flags : List Bool) (chosen : ℕ → Bool)
    → ((i : ℕ) → i < length lists.demands.now → flag_at flags i ≡ chosen i) →
    capacity_of (network_in lists) (flag_at flags) ≡ capacity_of (network_in lists) chosen
chosen_capacity lists flags chosen same =
    same_capacity (network_in lists) (flag_at flags) chosen
    ((on_arcs (λ a. flag_at flags a.row ≡ chosen a.row) lists.arc_flows.now).0
    (λ k d l. same (slice_index_or lists.arc_flows.now k d).arc.row (lists.rows_in k d l)))

-- and so is what they ask for
pub chosen_demand : (lists : FlowLists) (flags : List Bool) (chosen : ℕ → Bool)
    → ((i : ℕ) → i < length lists.demands.now → flag_at flags i ≡ chosen i) →
    sum_below (length lists.demands.now) (λ i. if flag_at flags i then slice_index lists.demands.now i else 0)
    ≡ demand_of (network_in lists) chosen
chosen_demand lists flags chosen same =
    sum_below_same (length lists.demands.now) _ _
    (λ i l. ap (λ b. if b then slice_index lists.demands.now i else 0) (same i l))
