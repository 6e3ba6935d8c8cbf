-- Rows with no arc ask for nothing, and rows with several least arcs have a class.
use Rattle.std.proofs.Common.{◌≡◌, ℕ, ◌<◌, ◌≤◌, ◌∙◌, true, List, [], ◌∷◌, All, length, sum_by, slice_index_or}
use Rattle.std.proofs.Common.{refl, ap, sym, subst, arith}
use Rattle.std.specs.Prelude.{⊤}
use Rattle.std.specs.List.{AllByRecursion, list_any}
use Rattle.std.proofs.lemmas.List.Elements.{All-from_recursion, recursion_from_All}
use Rattle.std.proofs.lemmas.List.Folds.{Any-from_list_any}
use Rattle.std.proofs.lemmas.List.Sums.{get_or-le-sum_by}
use Rattle.hsp_transport.proofs.Rowwise.{when}
use Rattle.hsp_network.specs.declared.network.PricedFlow.{PricedFlow}
use Rattle.hsp_instance.specs.Instance.{Row}
use Rattle.hsp_instance.specs.declared.arc.Arc.{Arc}
use Rattle.hsp_prices.specs.Rows.{Service}
use Rattle.hsp_price_text.specs.Claim.{Best}
use Rattle.hsp_prices.specs.Least.{is_of, least_arcs, least_of, pay_over, servers_of}
use Rattle.hsp_prices.specs.Shown.{IsService}
use Rattle.hsp_prices.specs.Verdict.{IsPlaced}
use Rattle.hsp_prices.proofs.Lists.{all_both, any_alike}
use Rattle.hsp_prices.specs.Groups.{Group, is_in}
use Rattle.hsp_prices.specs.KeptRows.{KeptRow, kept_in}
use Rattle.hsp_prices.specs.Solved.{AreRows, HasClass, IsPlanOfGroups, flow_to, is_part, least_servers}
use Rattle.hsp_prices.proofs.GroupRows.{IsKeptAs, class_of_group, is_of_kept, least_by, least_in, same_class}
use Rattle.hsp_prices.proofs.GroupSums.{HasLeast, all_met}
use Rattle.hsp_prices.proofs.PlanSums.{kept_as, sent, sent_all, sent_least}
use Rattle.hsp_prices.proofs.RowPairs.{all_alike}
use Rattle.hsp_prices.proofs.SentFlows.{IsSent, from_sent}

module _ (at : Service) (plan : Best) where
  -- a row in memory is placed
  abbrev IsPlacedKept : KeptRow → List Arc → Type 0
  IsPlacedKept row [] = row.count ≡ 0
  IsPlacedKept row (arc ∷ []) = ⊤
  IsPlacedKept row (arc ∷ other ∷ more) = list_any (λ class. is_of_kept at plan class row) plan.classes ≡ true

  -- so is the row that it is
  placed_as : (row : Row) (kept : KeptRow) → IsKeptAs at plan row kept → (arcs : List Arc) → IsPlacedKept kept arcs
      → IsPlaced at plan row arcs
  placed_as row kept is [] none = sym is.count ∙ none
  placed_as row kept is (a ∷ []) any = tt
  placed_as row kept is (a ∷ b ∷ more) some =
      any_alike (λ class. is_of at plan class row) (λ class. is_of_kept at plan class kept)
      (λ class. same_class at plan class row kept is) plan.classes ∙ some

  -- a group is placed
  abbrev IsGroupPlaced : Group → Type 0
  IsGroupPlaced group =
      (least_by at plan group ≡ [] → group.demand ≡ 0) × HasClass at plan group (least_servers at plan group)

  -- and so is a row of it that asks for no more
  in_placed : (group : Group) (row : KeptRow) → is_in group row ≡ true → kept_in row ≡ group.arcs
      → row.count ≤ group.demand → IsGroupPlaced group → IsPlacedKept row (least_in at plan row)
  in_placed group row own same less placed =
      by_least (least_by at plan group) refl placed.1
      (least_in at plan row) (ap (least_arcs (pay_over at plan)) same)
    where
      by_least : (arcs : List Arc) → least_by at plan group ≡ arcs → HasClass at plan group (servers_of arcs)
          → (all : List Arc) → all ≡ arcs → IsPlacedKept row all
      by_least [] none has all e =
          let nothing = placed.0 none in subst (IsPlacedKept row) (sym e) (omega (arith, less, nothing))
      by_least (a ∷ []) one has all e = subst (IsPlacedKept row) (sym e) tt
      by_least (a ∷ b ∷ more) several has all e =
          subst (IsPlacedKept row) (sym e)
          (any_alike (λ class. is_of_kept at plan class row) (λ class. is_part at plan class group)
          (λ class. class_of_group at plan class group row own same) plan.classes ∙ has)

module _ (at : Service) (rows : List Row) (kept : List KeptRow) (groups : List Group) (flow : PricedFlow) (plan : Best)
    (is : IsService at) (are : AreRows at rows kept) (shown : IsPlanOfGroups at kept groups flow plan) where
  -- a group with no least arc asks for nothing
  none_asked : (own : Group × List ℕ) → IsSent at plan own → HasLeast at plan own
      → least_by at plan own.0 ≡ [] → own.0.demand ≡ 0
  none_asked own flows least none =
      sym (all_met at plan own flows least) ∙ ap (sum_by (λ (a : Arc). flow_to a.server own)) none

  -- each group is placed
  groups_placed : AllByRecursion (IsGroupPlaced at plan) groups
  groups_placed =
      all_both (λ group. least_by at plan group ≡ [] → group.demand ≡ 0)
      (λ group. HasClass at plan group (least_servers at plan group)) (IsGroupPlaced at plan) groups
      (λ group none has. (none, has))
      (from_sent (λ group. least_by at plan group ≡ [] → group.demand ≡ 0) groups flow.flows.items
      (all_both (IsSent at plan) _ _ (sent at rows kept groups flow plan is are shown) none_asked
      (sent_all at rows kept groups flow plan is are shown) (sent_least at rows kept groups flow plan is are shown)))
      (recursion_from_All (λ group. HasClass at plan group (least_servers at plan group)) groups
      shown.classes.placed)

  -- a row asks for no more than its group
  no_more : (i k : ℕ) (e : KeptRow) (d : Group) → i < length kept → k < length groups
      → is_in (slice_index_or groups k d) (slice_index_or kept i e) ≡ true
      → (slice_index_or kept i e).count ≤ (slice_index_or groups k d).demand
  no_more i k e d l m own =
      let group = slice_index_or groups k d in
      let row = slice_index_or kept i e in
      let part = get_or-le-sum_by (λ (row : KeptRow). when (is_in group row) row.count) kept i e l in
      let whole : when (is_in group row) row.count ≡ row.count = ap (λ t. when t row.count) own in
      omega (arith, part, whole, shown.of_rows.asked k d m)

  -- each row in memory is placed
  kept_placed : All (λ row. IsPlacedKept at plan row (least_in at plan row)) kept
  kept_placed i e l =
      let row = slice_index_or kept i e in
      let found = Any-from_list_any (λ group. is_in group row) groups (shown.of_rows.placed i e l) in
      let group = slice_index_or groups found.0 found.1 in
      let own : is_in group row ≡ true = ap (λ g. is_in g row) found.3 ∙ found.4 in
      in_placed at plan group row own (shown.of_rows.arcs i e l found.0 found.1 found.2 own)
      (no_more i found.0 e found.1 l found.2 own)
      (All-from_recursion (IsGroupPlaced at plan) groups groups_placed found.0 found.1 found.2)

  -- so each row is placed
  pub rows_placed : All (λ row. IsPlaced at plan row (least_of at plan row)) rows
  rows_placed =
      All-from_recursion (λ row. IsPlaced at plan row (least_of at plan row)) rows
      (all_alike (IsKeptAs at plan) (λ row. IsPlaced at plan row (least_of at plan row))
      (λ row. IsPlacedKept at plan row (least_in at plan row))
      (λ row k own placed.
      placed_as at plan row k own (least_of at plan row)
      (subst (IsPlacedKept at plan k) (sym own.least) placed)) rows kept
      (kept_as at rows kept groups flow plan is are shown)
      (recursion_from_All (λ row. IsPlacedKept at plan row (least_in at plan row)) kept kept_placed))
