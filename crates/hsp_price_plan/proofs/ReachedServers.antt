-- The servers that flagged groups reach, one group more at a time.
use Rattle.std.proofs.Common.{◌≡◌, ℕ, ◌+◌, ◌<◌, ◌==◌, ◌&&◌, ◌||◌, ◌∙◌, Bool, true, false, List, [], ◌∷◌, length, map}
use Rattle.std.proofs.Common.{take, slice_index_or, refl, ap, sym}
use Rattle.std.specs.List.{list_any}
use Rattle.std.proofs.Math.Bool.{or-false}
use Rattle.std.proofs.lemmas.List.Folds.{list_any-append}
use Rattle.hsp_instance.specs.declared.arc.Arc.{Arc}
use Rattle.hsp_check.specs.Instance.{arc_of}
use Rattle.hsp_prices.specs.Groups.{Group}
use Rattle.hsp_prices.proofs.ShortArcs.{leads}
use Rattle.hsp_price_plan.specs.Columns.{arcs_of_groups}
use Rattle.hsp_price_plan.proofs.ColumnSteps.{grown}

-- two tests that a third one guards
guarded : (t x y : Bool) → ((t && x) || (t && y)) ≡ (t && (x || y))
guarded true x y = refl
guarded false x y = refl

-- no flag is set behind a guard
none_guarded : (t : Bool) → false ≡ (t && false)
none_guarded true = refl
none_guarded false = refl

module _ (flag : ℕ → Bool) (j : ℕ) where
  -- some arc of arcs leads to the server
  abbrev pub some_to : List Arc → Bool
  some_to arcs = list_any (λ (a : Arc). a.server == j) arcs

  -- of a source's arcs, one leads there from a flagged source where the source is flagged and one leads there
  own_leads : (n : ℕ) (arcs : List Arc) → list_any (leads flag j) (map (arc_of n) arcs) ≡ (flag n && some_to arcs)
  own_leads n [] = none_guarded (flag n)
  own_leads n (a ∷ arcs) =
      ap (λ b. (flag n && a.server == j) || b) (own_leads n arcs)
      ∙ guarded (flag n) (a.server == j) (some_to arcs)

  -- whether an arc of the first flagged groups leads there
  abbrev pub reached_by : ℕ → List Group → Bool
  reached_by k groups = list_any (leads flag j) (arcs_of_groups (take k groups))

  module _ (groups : List Group) (k : ℕ) (d : Group) (l : k < length groups) where
    -- of one group more
    one_more : reached_by (k + 1) groups ≡ (reached_by k groups || (flag k && some_to (slice_index_or groups k d).arcs))
    one_more =
        ap (list_any (leads flag j)) (grown groups k d l)
        ∙ list_any-append (leads flag j) (arcs_of_groups (take k groups))
        (map (arc_of k) (slice_index_or groups k d).arcs)
        ∙ ap (λ b. reached_by k groups || b) (own_leads k (slice_index_or groups k d).arcs)

    -- a flagged group adds the servers of its arcs
    pub flagged_more : flag k ≡ true
        → (reached_by k groups || some_to (slice_index_or groups k d).arcs) ≡ reached_by (k + 1) groups
    flagged_more set =
        ap (λ t. reached_by k groups || (t && some_to (slice_index_or groups k d).arcs)) (sym set) ∙ sym one_more

    -- and another group adds none
    pub unflagged_more : flag k ≡ false → reached_by k groups ≡ reached_by (k + 1) groups
    unflagged_more unset =
        sym (or-false (reached_by k groups))
        ∙ ap (λ t. reached_by k groups || (t && some_to (slice_index_or groups k d).arcs)) (sym unset) ∙ sym one_more
