-- What a row pays at least, over which arcs it pays that, and which these are.
use Rattle.std.proofs.Common.{◌≡◌, ℕ, suc, ◌+◌, ◌<◌, ◌≤◌, ◌==◌, ◌&&◌, ◌∙◌, Bool, true, List, [], ◌∷◌, ◌++◌, length}
use Rattle.std.proofs.Common.{All, Some, filter, map, refl, ap, ap₂, arith, add-zero, leb-true, nat_le}
use Rattle.std.specs.List.{list_any, slice_get}
use Rattle.std.proofs.lemmas.List.Elements.{All-filter, All-head, All-weaker, filter-append, filter_passes}
use Rattle.std.proofs.lemmas.List.Sums.{AllPass-from_list_all}
use Rattle.hsp_instance.specs.Instance.{IsAscending, Row}
use Rattle.hsp_instance.specs.declared.arc.Arc.{Arc}
use Rattle.hsp_check.specs.declared.arc.NetworkArc.{NetworkArc}
use Rattle.hsp_check.specs.Instance.{arc_of, arcs_from}
use Rattle.hsp_prices.specs.Least.{is_least, least_arcs}
use Rattle.hsp_prices.specs.Sums.{first_pay}
use Rattle.hsp_prices.proofs.Lists.{same_kept}
use Rattle.hsp_prices.proofs.Sites.{found_by_site}

module _ (pay : Arc → ℕ) (arcs : List Arc) where
  -- an arc pays no more than any
  abbrev PaysLeast : Arc → Type 0
  PaysLeast a = All (λ b. pay a ≤ pay b) arcs

  -- each least arc does
  all_least : All PaysLeast (least_arcs pay arcs)
  all_least =
      All-weaker (λ a. is_least pay arcs a ≡ true) PaysLeast
      (λ a e. All-weaker (λ b. nat_le (pay a) (pay b) ≡ true) (λ b. pay a ≤ pay b) (λ b t. leb-true (pay a) (pay b) t)
      arcs (AllPass-from_list_all (λ b. nat_le (pay a) (pay b)) arcs e)) (least_arcs pay arcs)
      (filter_passes (is_least pay arcs) arcs)

  -- the first of such arcs pays no more than any
  low_by : (list : List Arc) → All PaysLeast list → All (λ a. first_pay pay list ≤ pay a) arcs
  low_by [] all k d l = omega arith
  low_by (a ∷ more) all k d l = All-head PaysLeast a more all k d l

  -- no arc pays less than the least ones
  pub no_less : All (λ a. first_pay pay (least_arcs pay arcs) ≤ pay a) arcs
  no_less = low_by (least_arcs pay arcs) all_least

  -- the first of arcs of which none pays more than another pays what each pays
  paid_by : (list : List Arc) → All (λ a. All (λ b. pay a ≤ pay b) list) list
      → All (λ a. first_pay pay list ≡ pay a) list
  paid_by [] all k d l = absurd (omega arith)
  paid_by (a ∷ more) all k d l =
      let some : 0 < length (a ∷ more) = omega arith in
      let low = all 0 d some k d l in
      let high = all k d l 0 d some in
      omega arith

  -- the least arcs all pay the same
  pub all_pay : All (λ a. first_pay pay (least_arcs pay arcs) ≡ pay a) (least_arcs pay arcs)
  all_pay =
      paid_by (least_arcs pay arcs)
      (All-weaker PaysLeast (λ a. All (λ b. pay a ≤ pay b) (least_arcs pay arcs))
      (λ a least. All-filter (is_least pay arcs) (λ b. pay a ≤ pay b) arcs least) (least_arcs pay arcs) all_least)

-- ---- the arcs that rows keep

-- the arcs of a row of which a test is true are those that a test of the network's arcs keeps
kept_of : (keeps : NetworkArc → Bool) (i : ℕ) (arcs : List Arc)
    → filter keeps (map (arc_of i) arcs) ≡ map (arc_of i) (filter (λ a. keeps (arc_of i a)) arcs)
kept_of keeps i [] = refl
kept_of keeps i (a ∷ arcs) = grind (arith, kept_of keeps i arcs)

-- so it is with the arcs of all rows
pub kept_rows : (keeps : NetworkArc → Bool) (all some : Row → List Arc) (i : ℕ) (rows : List Row)
    → ((k : ℕ) (row : Row) → slice_get rows k ≡ Some row
    → filter (λ a. keeps (arc_of (i + k) a)) (all row) ≡ some row)
    → filter keeps (arcs_from i (map all rows)) ≡ arcs_from i (map some rows)
kept_rows keeps all some i [] each = refl
kept_rows keeps all some i (row ∷ rows) each =
    filter-append keeps (map (arc_of i) (all row)) (arcs_from (i + 1) (map all rows))
    ∙ ap₂ (λ xs ys. xs ++ ys)
    (kept_of keeps i (all row) ∙ ap (λ xs. map (arc_of i) xs) (rw add-zero at (each 0 row refl)))
    (kept_rows keeps all some (i + 1) rows (λ k r at. let e : (i + 1) + k ≡ i + suc k = omega arith in
    rw e (each (suc k) r at)))

-- whether one of these arcs leads to a site and passes a test
abbrev pub leads : (Arc → Bool) → List Arc → ℕ → Bool
leads test arcs s = list_any (λ (b : Arc). b.site == s && test b) arcs

-- the arcs of ascending ones to the sites where one passes are those that pass
pub kept_by_site : (test : Arc → Bool) (arcs : List Arc) → IsAscending arcs
    → filter (λ a. leads test arcs a.site) arcs ≡ filter test arcs
kept_by_site test arcs up = same_kept (λ a. leads test arcs a.site) test arcs (found_by_site test arcs up)
