-- Columns of groups with those of one group more.
use Rattle.std.proofs.Common.{◌≡◌, ℕ, ◌+◌, ◌<◌, ◌∙◌, List, [], ◌∷◌, ◌++◌, length, map, take, slice_index_or, ap, sym}
use Rattle.std.specs.Prelude.{Some, option_map, slice_get}
use Rattle.std.proofs.lemmas.List.{map-append, take-map, take_more}
use Rattle.std.proofs.lemmas.Option.{slice_get-get_or, slice_get-map}
use Rattle.hsp_check.specs.Instance.{arc_of}
use Rattle.hsp_flow.specs.Columns as columns
use Rattle.hsp_flow.specs.declared.arcs.ArcColumns.{ArcColumns}
use Rattle.hsp_flow.proofs.InColumns as in_columns
use Rattle.hsp_prices.specs.Groups.{Group}
use Rattle.hsp_price_plan.specs.Columns.{arcs_of_groups}

module _ (groups : List Group) (k : ℕ) (d : Group) (l : k < length groups) where
  -- the arcs of the group of a number
  read : slice_get (map (λ (group : Group). group.arcs) groups) k ≡ Some (slice_index_or groups k d).arcs
  read =
      slice_get-map (λ (group : Group). group.arcs) groups k
      ∙ ap (option_map (λ (group : Group). group.arcs)) (slice_get-get_or groups k d l)

  -- the arcs of the first groups, and of one more
  pub grown : arcs_of_groups (take (k + 1) groups)
      ≡ arcs_of_groups (take k groups) ++ map (arc_of k) (slice_index_or groups k d).arcs
  grown =
      let lists = map (λ (group : Group). group.arcs) groups in
      rw (
        ← take-map (λ (group : Group). group.arcs) k groups,
        ← take-map (λ (group : Group). group.arcs) (k + 1) groups,
      ) (sym (in_columns.grown lists k (slice_index_or groups k d).arcs read))

  -- the columns of the arcs grow by those of a group
  pub arcs_more : (old new : ArcColumns) → columns.AreColumns (arcs_of_groups (take k groups)) old
      → columns.Extends old (map (arc_of k) (slice_index_or groups k d).arcs) new
      → columns.AreColumns (arcs_of_groups (take (k + 1) groups)) new
  arcs_more old new is more =
      let lists = map (λ (group : Group). group.arcs) groups in
      rw (← take-map (λ (group : Group). group.arcs) (k + 1) groups)
      (in_columns.columns_more lists k (slice_index_or groups k d).arcs read old new
      (rw (take-map (λ (group : Group). group.arcs) k groups) is) more)

  -- the demands grow by that of a group
  pub demands_more : (old new : List ℕ) → old ≡ map (λ (group : Group). group.demand) (take k groups)
      → new ≡ old ++ (slice_index_or groups k d).demand ∷ []
      → new ≡ map (λ (group : Group). group.demand) (take (k + 1) groups)
  demands_more old new is more =
      more ∙ ap (λ xs. xs ++ (slice_index_or groups k d).demand ∷ []) is
      ∙ sym (map-append (λ (group : Group). group.demand) (take k groups) (slice_index_or groups k d ∷ []))
      ∙ ap (map (λ (group : Group). group.demand)) (sym (take_more groups k d l))
