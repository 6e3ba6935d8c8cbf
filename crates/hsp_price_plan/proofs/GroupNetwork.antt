-- The network of groups is one, and its numbers are small.
use Rattle.std.proofs.Common.{◌≡◌, ℕ, zero, suc, ◌+◌, ◌*◌, ◌-◌, ◌^◌, ◌<◌, ◌≤◌, ◌∙◌, List, [], ◌∷◌, ◌++◌, length, map}
use Rattle.std.proofs.Common.{slice_index, slice_index_or, refl, sym, arith, length-append}
use Rattle.std.specs.List.{AllByRecursion}
use Rattle.std.proofs.Math.Nat.{le_trans, mul-le-mul_right}
use Rattle.std.proofs.lemmas.List.{length-map, get_or-map}
use Rattle.std.proofs.lemmas.List.Sums.{get_or-le-sum_by, sum_by-cons}
use Rattle.hsp_instance.specs.declared.arc.Arc.{Arc}
use Rattle.hsp_instance.specs.RowArcs.{IsWithin}
use Rattle.hsp_instance.proofs.Lists.{all_so}
use Rattle.hsp_text.proofs.Lists.{all_append}
use Rattle.hsp_network.specs.Answer.{BoundsCosts, HasLengths}
use Rattle.hsp_network.specs.Network.{IsNetwork}
use Rattle.hsp_network.specs.declared.network.PricedFlow.{PricedFlow}
use Rattle.hsp_network.specs.Layout.{IsSmall}
use Rattle.hsp_check.specs.declared.arc.NetworkArc.{NetworkArc}
use Rattle.hsp_check.specs.Instance.{arc_of, arcs_from}
use Rattle.hsp_flow.proofs.Ordering.{each_at, no_arc, rows_between}
use Rattle.hsp_prices.specs.Groups.{Group}
use Rattle.hsp_price_check.specs.declared.numbers.ServiceNumbers.{ServiceNumbers}
use Rattle.hsp_price_plan.specs.Columns.{arcs_of_groups}
use Rattle.hsp_price_plan.specs.Pressing.{CanPress}
use Rattle.hsp_price_plan.specs.Solving.{HasArcsWithin, HasFewArcs, arcs_in, demand_in, group_network}

-- no later arc is of an earlier row
abbrev AreUp : List NetworkArc → Type 0
AreUp [] = Unit {0}
AreUp (a ∷ arcs) = AllByRecursion (λ (b : NetworkArc). a.row ≤ b.row) arcs × AreUp arcs

-- arcs of one row, in front of arcs of no earlier row
up_append : (i : ℕ) (arcs : List Arc) (later : List NetworkArc)
    → AllByRecursion (λ (b : NetworkArc). i ≤ b.row) later → AreUp later → AreUp (map (arc_of i) arcs ++ later)
up_append i [] later above up = up
up_append i (a ∷ arcs) later above up = (
  all_append (λ (b : NetworkArc). i ≤ b.row) (map (arc_of i) arcs) later (own arcs) above,
  up_append i arcs later above up,
)
  where
    own : (arcs : List Arc) → AllByRecursion (λ (b : NetworkArc). i ≤ b.row) (map (arc_of i) arcs)
    own [] = tt
    own (a ∷ arcs) = (omega arith, own arcs)

-- the arcs of lists stand in the order of their lists
all_up : (i : ℕ) (lists : List (List Arc)) → AreUp (arcs_from i lists)
all_up i [] = tt
all_up i (arcs ∷ rest) =
    up_append i arcs (arcs_from (i + 1) rest)
    (all_so _ (λ (b : NetworkArc). i ≤ b.row) (arcs_from (i + 1) rest) (λ b between. omega (arith, between.0))
    (rows_between (i + 1) rest)) (all_up (i + 1) rest)

-- so the rows don't fall
rows_up : (arcs : List NetworkArc) → AreUp arcs → (j k : ℕ) → j ≤ k → k < length arcs
    → (slice_index_or arcs j no_arc).row ≤ (slice_index_or arcs k no_arc).row
rows_up [] up j k le l = absurd (omega arith)
rows_up (a ∷ arcs) up zero zero le l = omega arith
rows_up (a ∷ arcs) up zero (suc k) le l =
    each_at (λ (b : NetworkArc). a.row ≤ b.row) arcs k no_arc (omega arith) up.0
rows_up (a ∷ arcs) up (suc j) zero le l = absurd (omega arith)
rows_up (a ∷ arcs) up (suc j) (suc k) le l = rows_up arcs up.1 j k (omega arith) (omega arith)

-- what holds of each arc of each list holds of all arcs, with their rows
fits_row : (servers i : ℕ) (arcs : List Arc) → AllByRecursion (IsWithin servers) arcs
    → AllByRecursion (λ (a : NetworkArc). (a.server < servers) × (a.cost ≤ 1000000)) (map (arc_of i) arcs)
fits_row servers i [] each = tt
fits_row servers i (a ∷ arcs) each = ((each.0.server, each.0.cost), fits_row servers i arcs each.1)

-- so it is for the arcs of all groups
fits_all : (servers i : ℕ) (groups : List Group) → AllByRecursion (HasArcsWithin servers) groups
    → AllByRecursion (λ (a : NetworkArc). (a.server < servers) × (a.cost ≤ 1000000))
    (arcs_from i (map (λ (group : Group). group.arcs) groups))
fits_all servers i [] each = tt
fits_all servers i (group ∷ groups) each =
    all_append (λ (a : NetworkArc). (a.server < servers) × (a.cost ≤ 1000000)) (map (arc_of i) group.arcs)
    (arcs_from (i + 1) (map (λ (group : Group). group.arcs) groups)) (fits_row servers i group.arcs each.0)
    (fits_all servers (i + 1) groups each.1)

-- there are as many arcs as the groups have together
many_arcs : (i : ℕ) (groups : List Group)
    → length (arcs_from i (map (λ (group : Group). group.arcs) groups)) ≡ arcs_in groups
many_arcs i [] = refl
many_arcs i (group ∷ groups) =
    omega (
      arith,
      length-append (map (arc_of i) group.arcs) (arcs_from (i + 1) (map (λ (group : Group). group.arcs) groups)),
      length-map group.arcs (arc_of i),
      many_arcs (i + 1) groups,
      sum_by-cons (λ (group : Group). length group.arcs) group groups,
    )

-- groups with few arcs each have no more together
few_in : (groups : List Group) → AllByRecursion HasFewArcs groups → arcs_in groups ≤ 32 * length groups
few_in [] few = omega arith
few_in (group ∷ groups) few =
    omega (arith, few.0, few_in groups few.1, sum_by-cons (λ (group : Group). length group.arcs) group groups)

module _ (numbers : ServiceNumbers) (groups : List Group)
    (within : AllByRecursion (HasArcsWithin (length numbers.server_hosts.items)) groups) where
  abbrev arcs : List NetworkArc
  arcs = arcs_of_groups groups

  -- the arc of a number
  abbrev arc : ℕ → NetworkArc
  arc k = slice_index_or arcs k no_arc

  -- the number of a source is that of an arc
  inside : (k : ℕ) → k < length (map (λ (a : NetworkArc). a.row) arcs) → k < length arcs
  inside k l = omega (arith, length-map arcs (λ (a : NetworkArc). a.row))

  -- a part of an arc, by its place in the column
  at : (part : NetworkArc → ℕ) (k : ℕ) → k < length (map (λ (a : NetworkArc). a.row) arcs)
      → slice_index (map part arcs) k ≡ part (arc k)
  at part k l = get_or-map part arcs k no_arc 0 (inside k l)

  -- an arc leads to a server that is there, at a cost within the limit
  fits_at : (k : ℕ) → k < length arcs
      → ((arc k).server < length numbers.server_hosts.items) × ((arc k).cost ≤ 1000000)
  fits_at k l =
      each_at (λ (a : NetworkArc). (a.server < length numbers.server_hosts.items) × (a.cost ≤ 1000000)) arcs k no_arc
      l (fits_all (length numbers.server_hosts.items) 0 groups within)

  -- an arc is of a group that is there
  row_at : (k : ℕ) → k < length arcs → (arc k).row < length groups
  row_at k l =
      omega (
        arith,
        (each_at
            (λ (a : NetworkArc). (0 ≤ a.row) × (a.row < 0 + length (map (λ (group : Group). group.arcs) groups)))
            arcs k no_arc l (rows_between 0 (map (λ (group : Group). group.arcs) groups))).1,
        length-map groups (λ (group : Group). group.arcs),
      )

  -- the groups make a network
  pub is_network : IsNetwork (group_network numbers groups)
  is_network = record {
    hosts_many = sym numbers.servers_many;
    servers_many = length-map arcs (λ (a : NetworkArc). a.server) ∙ sym (length-map arcs (λ (a : NetworkArc). a.row));
    costs_many = length-map arcs (λ (a : NetworkArc). a.cost) ∙ sym (length-map arcs (λ (a : NetworkArc). a.row));
    sources_in =
        λ k l.
        omega (
          arith,
          at (λ (a : NetworkArc). a.row) k l,
          row_at k (inside k l),
          length-map groups (λ (group : Group). group.demand),
        );
    servers_in =
        λ k l.
        omega (
          arith,
          at (λ (a : NetworkArc). a.server) k l,
          (fits_at k (inside k l)).0,
          numbers.servers_many,
        );
    hosts_in = numbers.hosts_in;
    ordered =
        λ j k le l.
        omega (
          arith,
          at (λ (a : NetworkArc). a.row) j (omega arith),
          at (λ (a : NetworkArc). a.row) k l,
          rows_up arcs (all_up 0 (map (λ (group : Group). group.arcs) groups)) j k le (inside k l),
        );
  }

  -- no arc costs more than its limit
  pub costs_low : BoundsCosts (group_network numbers groups) 1000000
  costs_low k l = omega (arith, at (λ (a : NetworkArc). a.cost) k l, (fits_at k (inside k l)).1)

  -- its prices can be pressed
  pub can_press : length groups ≤ 67108864 → CanPress (group_network numbers groups)
  can_press few = record {
    cheap = costs_low;
    sources = omega (arith, few, length-map groups (λ (group : Group). group.demand));
    servers = omega (arith, numbers.servers_many, numbers.few_servers);
    hosts = numbers.few_hosts;
  }

  -- the solver's numbers have room for it
  pub is_small : length groups ≤ 67108864 → AllByRecursion HasFewArcs groups → demand_in groups < 2 ^ 64 - 1
      → IsSmall (group_network numbers groups)
  is_small few few_arcs low =
      let many : length (map (λ (group : Group). group.demand) groups) ≡ length groups =
      length-map groups (λ (group : Group). group.demand) in
      let n = 1 + length numbers.limits.items + length numbers.capacities.items
      + length (map (λ (group : Group). group.demand) groups) + 1 in
      let nodes : n ≤ 67239936 =
      omega (arith, many, numbers.servers_many, numbers.few_servers, numbers.few_hosts) in
      record {
        few = omega (arith, nodes);
        few_arcs =
            omega (
              arith,
              few,
              few_in groups few_arcs,
              many_arcs 0 groups,
              length-map arcs (λ (a : NetworkArc). a.row),
              numbers.servers_many,
              numbers.few_servers,
              numbers.few_hosts,
            );
        cheap = λ k l.
            let cost = slice_index (map (λ (a : NetworkArc). a.cost) arcs) k in
            let low : cost ≤ 1000000 =
            omega (arith, at (λ (a : NetworkArc). a.cost) k l, (fits_at k (inside k l)).1) in
            let one : n * cost ≤ 67239936 * 1000000 =
            le_trans (mul-le-mul_right cost nodes) (omega (arith, low)) in
            omega (arith, one);
        low = λ i l.
            let there : i < length groups = omega (arith, l, many) in
            let own : slice_index (map (λ (group : Group). group.demand) groups) i
            ≡ (slice_index_or groups i no_group).demand =
            get_or-map (λ (group : Group). group.demand) groups i no_group 0 there in
            omega (arith, own, get_or-le-sum_by (λ (group : Group). group.demand) groups i no_group there);
      }
    where
      no_group : Group
      no_group = record { region = []; arcs = []; demand = 0 }

-- a flow over the groups' arcs has a number for each
pub many_flows : (numbers : ServiceNumbers) (groups : List Group) (flow : PricedFlow)
    → HasLengths (group_network numbers groups) flow → length flow.flows.items ≡ arcs_in groups
many_flows numbers groups flow lengths =
    lengths.flows ∙ length-map (arcs_of_groups groups) (λ (a : NetworkArc). a.row) ∙ many_arcs 0 groups
