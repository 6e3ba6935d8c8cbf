-- Rows of a service, and their groups.
use Rattle.std.proofs.Common.{◌≡◌, ◌≤◌, ◌∙◌, ◌∷◌, ℕ, List, Option, [], ap, arith, filter, inl, inr}
use Rattle.std.proofs.Common.{length, map, refl, slice_index_or, subst, sym, true}
use Rattle.std.specs.List.{AllByRecursion, AllZip}
use Rattle.std.proofs.lemmas.Bool.{cases_Bool}
use Rattle.std.proofs.lemmas.List.{length-map}
use Rattle.std.proofs.lemmas.List.Elements.{All-from_recursion, recursion_from_All}
use Rattle.std.proofs.lemmas.List.Folds.{Any-from_list_any}
use Rattle.std.proofs.lemmas.List.Sums.{count_by-le-length, length-filter, sum_by-cons}
use Rattle.hsp_tables.specs.Costs.{AreCosts}
use Rattle.hsp_instance.specs.Instance.{Row, Server}
use Rattle.hsp_instance.specs.RowArcs.{IsWithin}
use Rattle.hsp_instance.specs.declared.arc.Arc.{Arc}
use Rattle.hsp_instance.proofs.ArcLists.{arcs_few}
use Rattle.hsp_instance.proofs.ArcsWithin.{arcs_within}
use Rattle.hsp_prices.specs.Rows.{Service}
use Rattle.hsp_prices.specs.Least.{arcs_of}
use Rattle.hsp_prices.specs.Shown.{IsService}
use Rattle.hsp_prices.specs.Groups.{AreGroupsOf, Group, is_in}
use Rattle.hsp_prices.specs.KeptRows.{IsRow, KeptArc, KeptRow, arcs_in}
use Rattle.hsp_price_check.specs.PlanPass.{AreNumbersOf}
use Rattle.hsp_price_check.specs.declared.numbers.ServiceNumbers.{ServiceNumbers}
use Rattle.hsp_price_plan.specs.Held.{AreWithin}
use Rattle.hsp_price_plan.proofs.StillRows.{LeavesRows, still_rows}
use Rattle.hsp_price_plan.specs.Grouping.{asked_in}
use Rattle.hsp_price_plan.specs.Solving.{HasArcsWithin, HasFewArcs}
use Rattle.hsp_price_plan.specs.Planning.{AreOfSome, Outlasts}

-- there are as many servers as numbers of them
pub same_many : (numbers : ServiceNumbers) (at : Service) → AreNumbersOf at numbers
    → length at.servers ≡ length numbers.server_hosts.items
same_many numbers at are =
    sym (ap (λ (hosts : List (Option ℕ)). length hosts) are.server_hosts
    ∙ length-map at.servers (λ (server : Server). server.host))

-- ---- arcs lead to servers that are there

-- those of one row
row_within : (at : Service) → IsService at → AreCosts at.costs → (row : Row)
    → AllByRecursion (IsWithin (length at.servers)) (arcs_of at row)
row_within at service costs row =
    arcs_within at.costs costs.keyed.each row (length at.servers) 0 0 at.sites service.sites.each
    (omega (arith, service.servers.count))

-- so it is with each row of a service
each_within : (at : Service) → IsService at → AreCosts at.costs → (rows : List Row) (kept : List KeptRow)
    → AllZip (IsRow at) rows kept → AreWithin (length at.servers) kept
each_within at service costs rows [] all = tt
each_within at service costs [] (own ∷ kept) all = absurd all
each_within at service costs (row ∷ rows) (own ∷ kept) all = (
  subst (λ (arcs : List Arc). AllByRecursion (IsWithin (length at.servers)) arcs) (sym all.0.arcs)
      (row_within at service costs row),
  each_within at service costs rows kept all.1,
)

-- those of all rows
pub rows_within : (numbers : ServiceNumbers) (kept : List KeptRow) → AreOfSome numbers kept
    → AreWithin (length numbers.server_hosts.items) kept
rows_within numbers kept some =
    let held = some.2 in
    subst (λ n. AreWithin n kept) (same_many numbers some.0 held.numbers_are)
    (each_within some.0 held.service held.costs some.1 kept held.rows_are)

-- those that are kept
kept_within : (n : ℕ) (arcs : List KeptArc) → AllByRecursion (IsWithin n) (map (λ (a : KeptArc). a.arc) arcs)
    → AllByRecursion (IsWithin n) (map (λ (a : KeptArc). a.arc) (filter (λ (a : KeptArc). a.is_kept) arcs))
kept_within n [] all = tt
kept_within n (a ∷ arcs) all = elim (cases_Bool a.is_kept) [
  | inl is ↦ rw is (all.0, kept_within n arcs all.1)
  | inr not ↦ rw not (kept_within n arcs all.1)
]

-- and those of groups
pub groups_within : (n : ℕ) (kept : List KeptRow) (groups : List Group) → AreWithin n kept → AreGroupsOf kept groups
    → AllByRecursion (HasArcsWithin n) groups
groups_within n kept groups within are =
    recursion_from_All (HasArcsWithin n) groups (λ k d l.
    let group = slice_index_or groups k d in
    let found = Any-from_list_any (λ row. is_in group row) kept (are.used k d l) in
    let row = slice_index_or kept found.0 found.1 in
    let own : is_in group row ≡ true = ap (λ (r : KeptRow). is_in group r) found.3 ∙ found.4 in
    subst (λ (arcs : List Arc). AllByRecursion (IsWithin n) arcs) (are.arcs found.0 found.1 found.2 k d l own)
    (kept_within n row.arcs
    (All-from_recursion (λ (r : KeptRow). AllByRecursion (IsWithin n) (arcs_in r)) kept within found.0 found.1
    found.2)))

-- ---- there are few of them

-- there are as many rows in memory
pub many_rows : (at : Service) (rows : List Row) (kept : List KeptRow) → AllZip (IsRow at) rows kept
    → length rows ≡ length kept
many_rows at [] [] all = refl
many_rows at [] (own ∷ kept) all = absurd all
many_rows at (row ∷ rows) [] all = absurd all
many_rows at (row ∷ rows) (own ∷ kept) all = omega (arith, many_rows at rows kept all.1)

-- a row has no more arcs than there are sites
abbrev HasFew : KeptRow → Type 0
HasFew row = length row.arcs ≤ 32

-- each row has at most one arc a site
few_of : (at : Service) → IsService at → (rows : List Row) (kept : List KeptRow) → AllZip (IsRow at) rows kept
    → AllByRecursion HasFew kept
few_of at service [] [] all = tt
few_of at service [] (own ∷ kept) all = absurd all
few_of at service (row ∷ rows) [] all = absurd all
few_of at service (row ∷ rows) (own ∷ kept) all = (
  omega (
    arith,
    ap (λ (arcs : List Arc). length arcs) all.0.arcs,
    length-map own.arcs (λ (a : KeptArc). a.arc),
    arcs_few at.costs row 0 0 at.sites,
    service.sites.few,
  ),
  few_of at service rows kept all.1,
)

-- nor has a group
pub groups_few : (at : Service) (rows : List Row) (kept : List KeptRow) (groups : List Group) → IsService at
    → AllZip (IsRow at) rows kept → AreGroupsOf kept groups → AllByRecursion HasFewArcs groups
groups_few at rows kept groups service all are =
    recursion_from_All HasFewArcs groups (λ k d l.
    let group = slice_index_or groups k d in
    let found = Any-from_list_any (λ row. is_in group row) kept (are.used k d l) in
    let row = slice_index_or kept found.0 found.1 in
    let own : is_in group row ≡ true = ap (λ (r : KeptRow). is_in group r) found.3 ∙ found.4 in
    omega (
      arith,
      ap (λ (arcs : List Arc). length arcs) (are.arcs found.0 found.1 found.2 k d l own),
      length-map (filter (λ (a : KeptArc). a.is_kept) row.arcs) (λ (a : KeptArc). a.arc),
      length-filter (λ (a : KeptArc). a.is_kept) row.arcs,
      count_by-le-length (λ (a : KeptArc). a.is_kept) row.arcs,
      All-from_recursion HasFew kept (few_of at service rows kept all) found.0 found.1 found.2,
    ))

-- ---- rows outlast a pass

module _ (f : KeptRow → KeptRow) (leaves : LeavesRows f) where
  -- they ask for what they did
  same_asked : (kept : List KeptRow) → asked_in (map f kept) ≡ asked_in kept
  same_asked [] = refl
  same_asked (row ∷ kept) =
      omega (
        arith,
        leaves.count row,
        same_asked kept,
        sum_by-cons (λ (r : KeptRow). r.count) (f row) (map f kept),
        sum_by-cons (λ (r : KeptRow). r.count) row kept,
      )

  -- and are still those of their service
  pub held_still : (numbers : ServiceNumbers) (kept : List KeptRow) → Outlasts numbers kept (map f kept)
  held_still numbers kept at rows held = record {
    service = held.service;
    costs = held.costs;
    numbers_are = held.numbers_are;
    rows_are = still_rows f leaves at rows kept held.rows_are;
    demand = omega (arith, same_asked kept, held.demand);
  }
