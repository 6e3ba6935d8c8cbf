-- What groups ask for that can go to servers of a set only is what their rows do.
use Rattle.std.proofs.Common.{◌≡◌, ℕ, ◌+◌, ◌<◌, ◌≤◌, ◌∙◌, Bool, true, false, List, [], ◌∷◌, All, filter, length, map}
use Rattle.std.proofs.Common.{sum_by, slice_index_or, take, refl, ap, sym, subst, arith}
use Rattle.std.specs.List.{list_all}
use Rattle.std.specs.Cmp.{both_ways}
use Rattle.std.proofs.lemmas.Bool.{and_from, and_parts}
use Rattle.std.proofs.lemmas.List.Elements.{recursion_from_All}
use Rattle.std.proofs.lemmas.List.Sums.{sum_by_more, sum_by_more_le_part}
use Rattle.hsp_transport.proofs.Rowwise.{same_by, sum_by_none, when, when_zero}
use Rattle.hsp_instance.specs.Instance.{Row}
use Rattle.hsp_instance.specs.declared.arc.Arc.{Arc}
use Rattle.hsp_instance.proofs.Lists.{all_so}
use Rattle.hsp_check.specs.Verdict.{is_one_of}
use Rattle.hsp_prices.specs.Rows.{Service}
use Rattle.hsp_price_text.specs.Claim.{Best}
use Rattle.hsp_prices.specs.Sums.{caught_in_all}
use Rattle.hsp_prices.proofs.Lists.{same_sum}
use Rattle.hsp_prices.specs.Groups.{AreGroupsOf, Group, asked_by, is_in}
use Rattle.hsp_prices.specs.KeptRows.{KeptArc, KeptRow, arcs_in, kept_in, with_leaving}
use Rattle.hsp_prices.specs.Solved.{AreRows}
use Rattle.hsp_prices.proofs.GroupRows.{by_group}
use Rattle.hsp_prices.proofs.ShortRows.{caught_same, count_in, leads_in, row_stays}
use Rattle.hsp_price_plan.specs.Shortage.{caught_demand, is_caught}
use Rattle.hsp_price_plan.specs.Solving.{demand_in}

-- where all arcs pass a test those that are kept do
kept_pass : (test : Arc → Bool) (arcs : List KeptArc) → list_all test (map (λ a. a.arc) arcs) ≡ true
    → list_all test (map (λ a. a.arc) (filter (λ a. a.is_kept) arcs)) ≡ true
kept_pass test [] all = refl
kept_pass test (a ∷ arcs) all =
    let parts = and_parts (test a.arc) (list_all test (map (λ (b : KeptArc). b.arc) arcs)) all in
    one a.is_kept refl parts.0 (kept_pass test arcs parts.1)
  where
    one : (t : Bool) → a.is_kept ≡ t → test a.arc ≡ true
        → list_all test (map (λ b. b.arc) (filter (λ b. b.is_kept) arcs)) ≡ true
        → list_all test (map (λ b. b.arc) (filter (λ b. b.is_kept) (a ∷ arcs))) ≡ true
    one true e first more =
        rw e
        (and_from (test a.arc) (list_all test (map (λ (b : KeptArc). b.arc) (filter (λ b. b.is_kept) arcs))) first
        more)
    one false e first more = rw e more

module _ (set : ℕ → Bool) where
  -- a row whose kept arcs lead into the set and that has no other arc is caught, and no other row is
  caught_is : (row : KeptRow) → with_leaving set row ≡ row
      → list_all (leads_in set) (arcs_in row) ≡ list_all (leads_in set) (kept_in row)
  caught_is row same =
      both_ways (list_all (leads_in set) (arcs_in row)) (list_all (leads_in set) (kept_in row))
      (kept_pass (leads_in set) row.arcs) (λ inside. row_stays set row inside same)

  -- what a group asks for, all whose arcs lead into the set
  abbrev pub group_in : Group → ℕ
  group_in group = when (list_all (leads_in set) group.arcs) group.demand

  -- what its rows ask for, likewise
  rows_in : (kept : List KeptRow) (group : Group) → group.demand ≡ asked_by kept group →
      sum_by (λ row. when (is_in group row) (when (list_all (leads_in set) group.arcs) row.count)) kept
      ≡ group_in group
  rows_in kept group asked = by_test (list_all (leads_in set) group.arcs)
    where
      by_test : (t : Bool)
          → sum_by (λ (row : KeptRow). when (is_in group row) (when t row.count)) kept ≡ when t group.demand
      by_test true = sym asked
      by_test false =
          same_by (λ (row : KeptRow). when (is_in group row) 0) (λ row. 0) kept (λ row. when_zero (is_in group row))
          ∙ sum_by_none kept

  -- the rows of groups ask for what the groups do
  pub caught_by_groups : (at : Service) (kept : List KeptRow) (groups : List Group) → AreGroupsOf kept groups
      → All (λ row. with_leaving set row ≡ row) kept
      → sum_by (count_in set) kept ≡ sum_by group_in groups
  caught_by_groups at kept groups are leaving =
      same_sum (count_in set) (λ row. when (list_all (leads_in set) (kept_in row)) row.count) kept
      (all_so (λ row. with_leaving set row ≡ row) _ kept (λ row same. ap (λ t. when t row.count) (caught_is row same))
      (recursion_from_All (λ row. with_leaving set row ≡ row) kept leaving))
      ∙ by_group at no_plan groups kept are (λ (row : KeptRow). when (list_all (leads_in set) (kept_in row)) row.count)
      (λ group row. when (list_all (leads_in set) group.arcs) row.count)
      (λ group row own same. ap (λ arcs. when (list_all (leads_in set) arcs) row.count) same)
      ∙ same_sum _ group_in groups
      (all_so (λ (group : Group). group.demand ≡ asked_by kept group) _ groups (λ group asked. rows_in kept group asked)
      (recursion_from_All (λ (group : Group). group.demand ≡ asked_by kept group) groups are.asked))
    where
      -- the sum by groups looks at no plan
      no_plan : Best
      no_plan = record { cost = 0; server_prices = []; host_prices = []; classes = [] }

-- what is caught of the rows is what their groups ask for
pub caught_demand_is : (at : Service) (servers : List ℕ) (rows : List Row) (kept : List KeptRow) (groups : List Group)
    → AreRows at rows kept → AreGroupsOf kept groups → All (λ row. with_leaving (is_one_of servers) row ≡ row) kept
    → sum_by (group_in (is_one_of servers)) groups ≡ caught_in_all at servers rows
caught_demand_is at servers rows kept groups are of leaving =
    sym (caught_by_groups (is_one_of servers) at kept groups of leaving) ∙ caught_same at servers rows kept are

-- ---- one group more

module _ (reached : List Bool) (groups : List Group) (k : ℕ) (group : Group) (l : k < length groups)
    (is : group ≡ slice_index_or groups k group) where
  -- what is counted of a group more
  pub caught_more : caught_demand reached (take (k + 1) groups)
      ≡ caught_demand reached (take k groups) + when (is_caught reached group) group.demand
  caught_more =
      sum_by_more (λ (g : Group). when (is_caught reached g) g.demand) groups k group l
      ∙ ap (λ (g : Group). caught_demand reached (take k groups) + when (is_caught reached g) g.demand) (sym is)

  -- there is room for it
  pub caught_room : caught_demand reached (take k groups) + group.demand ≤ demand_in groups
  caught_room =
      subst (λ (g : Group). caught_demand reached (take k groups) + g.demand ≤ demand_in groups) (sym is)
      (sum_by_more_le_part (λ (g : Group). when (is_caught reached g) g.demand) (λ (g : Group). g.demand) groups k group
      l (λ g. within (is_caught reached g) g.demand))
    where
      within : (t : Bool) (n : ℕ) → when t n ≤ n
      within true n = omega arith
      within false n = omega arith
