-- A short set of groups gives a valid certificate of a short set of servers.
use Rattle.std.proofs.Common.{◌≡◌, ℕ, ◌+◌, ◌<◌, ◌≤◌, ◌∙◌, ◌&&◌, Bool, true, false, List, [], ◌∷◌, length, map}
use Rattle.std.proofs.Common.{sum_by, slice_index, slice_index_or, is_none, min, All, refl, ap, ap₂, sym, arith}
use Rattle.std.specs.List.{AllByRecursion, items_where_true, list_all, list_any}
use Rattle.std.proofs.lemmas.Bool.{both_ways}
use Rattle.std.proofs.lemmas.List.{length-map}
use Rattle.hsp_transport.specs.Cut.{capacity_of, demand_of, reaches}
use Rattle.hsp_transport.specs.Lists.{flag_at, is_on}
use Rattle.hsp_transport.specs.Sums.{sum_below}
use Rattle.hsp_transport.proofs.Rowwise.{when}
use Rattle.hsp_transport.proofs.Summing.{sum_below_same}
use Rattle.hsp_network.specs.Network.{numbered}
use Rattle.hsp_instance.specs.Instance.{Row}
use Rattle.hsp_instance.specs.declared.arc.Arc.{Arc}
use Rattle.hsp_instance.proofs.Lists.{all_so}
use Rattle.hsp_check.specs.Network.{Network}
use Rattle.hsp_check.specs.Verdict.{is_one_of}
use Rattle.hsp_prices.specs.Rows.{Service, network_for}
use Rattle.hsp_prices.proofs.Tabling.{both_equal}
use Rattle.hsp_price_text.specs.Claim.{Short}
use Rattle.hsp_price_text.specs.declared.certificate.PriceCertificate.TheVariants as certificate
use Rattle.hsp_prices.specs.ServerSets.{capacity_in, capacity_of_servers}
use Rattle.hsp_prices.specs.Least.{servers_of}
use Rattle.hsp_prices.specs.Sums.{caught_in_all}
use Rattle.hsp_prices.specs.Verdict.{Meets}
use Rattle.hsp_prices.specs.declared.verdict.PriceReason.{PriceReason}
use Rattle.hsp_prices.specs.declared.verdict.PriceReason.TheVariants.{Shape, NoSuchServer, NotLeast, NoClass, ClassSum}
use Rattle.hsp_prices.specs.declared.verdict.PriceReason.TheVariants.{Load, Cost, IdlePrice, DemandSum, CapacitySum}
use Rattle.hsp_prices.specs.declared.verdict.PriceReason.TheVariants.{NotShort}
use Rattle.hsp_prices.proofs.Lists.{same_sum}
use Rattle.hsp_prices.proofs.Once.{AtMostOnce}
use Rattle.hsp_prices.specs.Groups.{AreGroupsOf, Group, asked_by, is_in, is_same, network_of_groups}
use Rattle.hsp_prices.specs.KeptRows.{KeptRow, kept_in}
use Rattle.hsp_prices.specs.Solved.{AreRows, GroupsShowShort, IsShortOfGroups}
use Rattle.hsp_prices.proofs.ShortArcs.{group_reaches}
use Rattle.hsp_prices.proofs.ShortRows.{caught_same, count_in, found_of, leads_in, row_stays}
use Rattle.hsp_prices.proofs.ShortSums.{all_chosen, once_chosen, once_of_pairs, sum_apart, sum_chosen}

-- a row is in at most one group
in_one : (kept : List KeptRow) (groups : List Group) → AreGroupsOf kept groups → (row : KeptRow)
    → AtMostOnce (λ group. is_in group row) groups
in_one kept groups are row =
    once_of_pairs (λ group later. is_same group later ≡ false) (λ group. is_in group row)
    (λ g h t s other.
    let p = (both_equal g.region row.region (servers_of g.arcs) (servers_of (kept_in row))).0 t in
    let q = (both_equal h.region row.region (servers_of h.arcs) (servers_of (kept_in row))).0 s in
    both_ways (is_same g h) other
    ((both_equal g.region h.region (servers_of g.arcs) (servers_of h.arcs)).1 (p.0 ∙ sym q.0, p.1 ∙ sym q.1)))
    groups are.apart

-- equal sets have the same arcs
all_alike : (s t : ℕ → Bool) → ((j : ℕ) → s j ≡ t j) → (arcs : List Arc)
    → list_all (leads_in s) arcs ≡ list_all (leads_in t) arcs
all_alike s t same [] = refl
all_alike s t same (a ∷ arcs) = ap₂ (λ b c. b && c) (same a.server) (all_alike s t same arcs)

-- equal sets take the same
capacity_same : (n : Network) (s t : ℕ → Bool) → ((j : ℕ) → s j ≡ t j)
    → capacity_of_servers n s ≡ capacity_of_servers n t
capacity_same n s t same = ap₂ (λ x y. x + y)
    (sum_below_same (length n.capacities) (λ j. when (is_none (n.host_of j)) (capacity_in n s j))
    (λ j. when (is_none (n.host_of j)) (capacity_in n t j)) (λ j l. ap (when (is_none (n.host_of j))) (own j)))
    (sum_below_same (length n.limits) _ _ (λ h l. ap (min (slice_index n.limits h))
    (sum_below_same (length n.capacities) (λ j. when (is_on (n.host_of j) h) (capacity_in n s j))
    (λ j. when (is_on (n.host_of j) h) (capacity_in n t j)) (λ j k. ap (when (is_on (n.host_of j) h)) (own j)))))
  where
    own : (j : ℕ) → capacity_in n s j ≡ capacity_in n t j
    own j = ap (λ b. when b (slice_index n.capacities j)) (same j)

-- What is known of a flagged group: its arcs, which its rows keep, lead into the set, and it asks for what they do.
record IsOfSet (set : ℕ → Bool) (kept : List KeptRow) (group : Group) : Type 0 where
  inside : list_all (leads_in set) group.arcs ≡ true
  same : All (λ row. is_in group row ≡ true → kept_in row ≡ group.arcs) kept
  asked : group.demand ≡ asked_by kept group

module _ (at : Service) (rows : List Row) (kept : List KeptRow) (groups : List Group) (flags : List Bool)
    (short : Short) (are : AreRows at rows kept) (is : IsShortOfGroups at rows kept groups flags short) where
  -- the certificate's set
  abbrev set : ℕ → Bool
  set = is_one_of short.servers

  -- the flagged groups
  abbrev chosen : List Group
  chosen = items_where_true flags groups

  -- the certificate's set takes what the flagged groups reach
  capacity_is : short.capacity ≡ capacity_of (numbered (network_of_groups at groups)) (flag_at flags)
  capacity_is =
      is.capacity
      ∙ capacity_same (network_for at rows) set (reaches (numbered (network_of_groups at groups)) (flag_at flags))
      is.servers

  -- and the flagged groups ask for what they do in the network
  demand_is : demand_of (numbered (network_of_groups at groups)) (flag_at flags)
      ≡ sum_by (λ group. group.demand) chosen
  demand_is =
      let many : length flags ≡ length groups =
      is.is_short.many ∙ length-map groups (λ (group : Group). group.demand) in
      ap
      (λ n. sum_below n
      (λ i. when (flag_at flags i) (slice_index (map (λ (group : Group). group.demand) groups) i)))
      (length-map groups (λ (group : Group). group.demand))
      ∙ sum_chosen (λ (group : Group). group.demand) flags groups many

  -- what is known of all flagged groups
  chosen_are : AllByRecursion (IsOfSet set kept) chosen
  chosen_are = all_chosen (IsOfSet set kept) flags groups (λ i d l t. record {
    inside = inside i d l t;
    same = λ k e m. is.of_rows.arcs k e m i d l;
    asked = is.of_rows.asked i d l;
  })
    where
      inside : (i : ℕ) (d : Group) → i < length groups → flag_at flags i ≡ true
          → list_all (leads_in set) (slice_index_or groups i d).arcs ≡ true
      inside i d l t =
          all_alike set (reaches (numbered (network_of_groups at groups)) (flag_at flags)) is.servers
          (slice_index_or groups i d).arcs
          ∙ group_reaches at groups (flag_at flags) i d l t

  -- a row of a flagged group is caught
  row_caught : (k : ℕ) (d : KeptRow) → k < length kept
      → list_any (λ group. is_in group (slice_index_or kept k d)) chosen ≡ true
      → (slice_index_or kept k d).count ≤ count_in set (slice_index_or kept k d)
  row_caught k d l e =
      let row = slice_index_or kept k d in
      let inside : list_all (leads_in set) (kept_in row) ≡ true =
      found_of (IsOfSet set kept) (list_all (leads_in set) (kept_in row) ≡ true) (λ group. is_in group row) chosen
      chosen_are (λ group known t. ap (list_all (leads_in set)) (known.same k d l t) ∙ known.inside) e in
      let stays = row_stays set row inside (is.leaving k d l) in
      let caught : count_in set row ≡ row.count = ap (λ b. when b row.count) stays in
      omega (arith, caught)

  -- so the flagged groups ask for no more than what is caught
  asked_less : sum_by (λ group. group.demand) chosen ≤ caught_in_all at short.servers rows
  asked_less =
      omega (
        arith,
        same_sum (λ (group : Group). group.demand) (asked_by kept) chosen asked_all,
        sum_apart is_in (λ (row : KeptRow). row.count) (count_in set) chosen
            (λ row. once_chosen (λ group. is_in group row) flags groups (in_one kept groups is.of_rows row)) kept
            row_caught,
        caught_same at short.servers rows kept are,
      )
    where
      asked_all : AllByRecursion (λ group. group.demand ≡ asked_by kept group) chosen
      asked_all =
          all_so (IsOfSet set kept) (λ group. group.demand ≡ asked_by kept group) chosen (λ group known. known.asked)
          chosen_are

  -- so less is taken than what is caught
  is_short : short.capacity < short.demand
  is_short = omega (arith, capacity_is, demand_is, asked_less, is.is_short.short, is.demand)

  -- all conditions of the certificate are met
  pub meets : (reason : PriceReason) → Meets at rows (certificate.Shortage short) reason
  meets NoSuchServer = is.there
  meets DemandSum = is.demand
  meets CapacitySum = is.capacity
  meets NotShort = is_short
  meets Shape = tt
  meets NotLeast = tt
  meets NoClass = tt
  meets ClassSum = tt
  meets Load = tt
  meets Cost = tt
  meets IdlePrice = tt

-- a short set of groups gives a valid certificate
pub groups_show_short : GroupsShowShort
groups_show_short at rows kept groups flags short service are is = meets at rows kept groups flags short are is
