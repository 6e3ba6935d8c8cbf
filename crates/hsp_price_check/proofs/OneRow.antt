-- What a row brings by its place: to servers, to the cost and to classes, and whether it is placed.
use Rattle.std.proofs.Common.{◌≡◌, ◌≤◌, ◌<◌, ◌∙◌, ℕ, Bool, true, false, List, [], ◌∷◌, length, None}
use Rattle.std.proofs.Common.{inl, inr, refl, ap, sym, subst, arith, eqb-true}
use Rattle.std.specs.Prelude.{◌==◌, if◌then◌else◌}
use Rattle.std.specs.List.{list_any}
use Rattle.std.proofs.lemmas.Bool.{and_from, and_parts, both_ways, cases_eq, eq-eqb, false_from_ne_true, ne_eqb}
use Rattle.std.proofs.lemmas.List.Folds.{list_any_at}
use Rattle.std.proofs.lemmas.List.Quantifiers.{position-Some}
use Rattle.hsp_instance.specs.Instance.{Row}
use Rattle.hsp_instance.specs.declared.arc.Arc.{Arc}
use Rattle.hsp_prices.specs.Rows.{Service}
use Rattle.hsp_price_text.specs.Claim.{Best, Class, is_best}
use Rattle.hsp_prices.specs.Least.{is_of, least_of, only_arc, servers_of}
use Rattle.hsp_prices.specs.Sums.{brings, costs, row_cost, row_load}
use Rattle.hsp_prices.specs.Verdict.{IsPlaced}
use Rattle.hsp_prices.proofs.ByRow.{no_class as of_no_class, one_of}
use Rattle.hsp_price_check.specs.Passed.{IsPlaceOf, class_at, no_class, placed_with, spent}
use Rattle.hsp_price_check.specs.declared.sums.RowPlace.{RowPlace}
use Rattle.hsp_price_check.specs.declared.sums.RowPlace.TheVariants.{Nowhere, Over, OfClass, Unlisted}
use Rattle.hsp_price_check.proofs.Positions.{fails_at, no_position, none_at, one_place}

-- what goes to a server by a place
abbrev pub taken : RowPlace → ℕ → ℕ → ℕ
taken (Over arc) count j = if arc.server == j then count else 0
taken place count j = 0

-- whether it goes to a class
abbrev pub hits : RowPlace → ℕ → Bool
hits (OfClass class) k = class == k
hits place k = false

-- of two arcs or more none is the only one
not_only : (arcs : List Arc) → 2 ≤ length arcs → only_arc arcs ≡ None
not_only [] h = absurd (omega arith)
not_only (a ∷ []) h = absurd (omega arith)
not_only (a ∷ b ∷ more) h = refl

module _ (at : Service) (plan : Best) (row : Row) where
  -- a row brings to a server what goes there by its place
  pub load_is : (place : RowPlace) (j : ℕ) → IsPlaceOf at plan row place
      → row_load at plan j row ≡ taken place row.count j
  load_is Nowhere j is = ap (λ arcs. brings row.count j (only_arc arcs)) is
  load_is (Over arc) j is = ap (λ arcs. brings row.count j (only_arc arcs)) is
  load_is (OfClass class) j is = ap (brings row.count j) (not_only (least_of at plan row) is.0)
  load_is Unlisted j is = ap (brings row.count j) (not_only (least_of at plan row) is.0)

  -- and it costs what it does by its place
  pub cost_is : (place : RowPlace) → IsPlaceOf at plan row place → row_cost at plan row ≡ spent place row.count
  cost_is Nowhere is = ap (λ arcs. costs row.count (only_arc arcs)) is
  cost_is (Over arc) is = ap (λ arcs. costs row.count (only_arc arcs)) is
  cost_is (OfClass class) is = ap (costs row.count) (not_only (least_of at plan row) is.0)
  cost_is Unlisted is = ap (costs row.count) (not_only (least_of at plan row) is.0)

  -- a row with two least arcs or more is placed where it is of a class
  several_placed : (arcs : List Arc) → 2 ≤ length arcs
      → list_any (λ class. is_of at plan class row) plan.classes ≡ true → IsPlaced at plan row arcs
  several_placed [] h e = absurd (omega arith)
  several_placed (a ∷ []) h e = tt
  several_placed (a ∷ b ∷ more) h e = e

  -- and it is of one where it is placed
  placed_several : (arcs : List Arc) → 2 ≤ length arcs → IsPlaced at plan row arcs
      → list_any (λ class. is_of at plan class row) plan.classes ≡ true
  placed_several [] h e = absurd (omega arith)
  placed_several (a ∷ []) h e = absurd (omega arith)
  placed_several (a ∷ b ∷ more) h e = e

  -- the flag stays set by a place where the row is placed
  pub flag_kept : (old : Bool) (place : RowPlace) → IsPlaceOf at plan row place → old ≡ true
      → IsPlaced at plan row (least_of at plan row) → placed_with old place row.count ≡ true
  flag_kept old Nowhere is e all =
      and_from old (row.count == 0) e (eq-eqb row.count 0 (subst (IsPlaced at plan row) is all))
  flag_kept old (Over arc) is e all = e
  flag_kept old (OfClass class) is e all = e
  flag_kept old Unlisted is e all =
      absurd (
      both_ways (list_any (λ class. is_of at plan class row) plan.classes)
      (no_position (λ class. is_of at plan class row) plan.classes is.1)
      (placed_several (least_of at plan row) is.0 all)
      )

  -- a flag that is set after the row was set before it
  pub flag_was : (old : Bool) (place : RowPlace) → placed_with old place row.count ≡ true → old ≡ true
  flag_was old Nowhere e = (and_parts old (row.count == 0) e).0
  flag_was old (Over arc) e = e
  flag_was old (OfClass class) e = e
  flag_was old Unlisted e = absurd (cc (e))

  -- and the row is placed
  pub row_placed : (old : Bool) (place : RowPlace) → IsPlaceOf at plan row place
      → placed_with old place row.count ≡ true → IsPlaced at plan row (least_of at plan row)
  row_placed old Nowhere is e =
      subst (IsPlaced at plan row) (sym is) (eqb-true row.count 0 (and_parts old (row.count == 0) e).1)
  row_placed old (Over arc) is e = subst (IsPlaced at plan row) (sym is) tt
  row_placed old (OfClass class) is e =
      let test = λ (class : Class). is_of at plan class row in
      let found = position-Some test plan.classes class no_class is.1 in
      several_placed (least_of at plan row) is.0 (list_any_at test plan.classes class no_class found.0 found.1)
  row_placed old Unlisted is e = absurd (cc (e))

  module _ (fits : is_best plan ≡ true) where
    -- a row with less than two least arcs is of no class
    few_none : (k : ℕ) → length (servers_of (least_of at plan row)) < 2 → k < length plan.classes
        → is_of at plan (class_at plan k) row ≡ false
    few_none k few l =
        fails_at (λ class. is_of at plan class row) plan.classes k no_class (of_no_class at plan row fits few) l

    -- a row is of the class that its place names, and of no other
    pub class_is : (place : RowPlace) (k : ℕ) → IsPlaceOf at plan row place → k < length plan.classes
        → is_of at plan (class_at plan k) row ≡ hits place k
    class_is Nowhere k is l =
        let none : length (servers_of (least_of at plan row)) ≡ 0 = ap (λ arcs. length (servers_of arcs)) is in
        few_none k (omega arith) l
    class_is (Over arc) k is l =
        let one : length (servers_of (least_of at plan row)) ≡ 1 = ap (λ arcs. length (servers_of arcs)) is in
        few_none k (omega arith) l
    class_is (OfClass class) k is l =
        let test = λ (class : Class). is_of at plan class row in
        let found = position-Some test plan.classes class no_class is.1 in
        elim (cases_eq class k) [
          | inl same ↦ ap (λ m. test (class_at plan m)) (sym same) ∙ found.1 ∙ sym (eq-eqb class k same)
          | inr other ↦
              false_from_ne_true (test (class_at plan k))
              (λ t. other (one_place test plan.classes class k no_class (one_of at plan row fits) found.0 l found.1 t))
              ∙ sym (ne_eqb class k other)
        ]
    class_is Unlisted k is l = none_at (λ class. is_of at plan class row) plan.classes k no_class is.1 l
