-- A row of the table of classes sends what it asks for.
use Rattle.std.proofs.Common.{◌≡◌, ℕ, ◌+◌, ◌<◌, ◌∙◌, Bool, true, false, List, [], ◌∷◌, length, All}
use Rattle.std.proofs.Common.{sum, sum_by, refl, ap, sym, subst, arith}
use Rattle.std.proofs.lemmas.List.Elements.{All-from_recursion, recursion_from_All}
use Rattle.hsp_transport.proofs.Rowwise.{same_by, sum_by_none, when, when_zero, when_same}
use Rattle.hsp_instance.specs.Instance.{Row}
use Rattle.hsp_instance.specs.declared.arc.Arc.{Arc}
use Rattle.hsp_prices.specs.Rows.{Service, with_count_of}
use Rattle.hsp_prices.proofs.ByTables.{no_row, row_at}
use Rattle.hsp_price_text.specs.Claim.{Best, Class, is_best}
use Rattle.hsp_prices.specs.Least.{is_of, least_of, only_arc, servers_of}
use Rattle.hsp_prices.specs.Shown.{IsService}
use Rattle.hsp_prices.specs.Sums.{asked_of}
use Rattle.hsp_prices.specs.Verdict.{IsPlaced}
use Rattle.hsp_prices.proofs.ByRow.{no_class, one_of}
use Rattle.hsp_prices.proofs.ClassKinds.{alike_to, by_class, classes_are_kinds, is_same_class, least_kept}
use Rattle.hsp_prices.proofs.ClassKinds.{least_servers, same_least, same_of}
use Rattle.hsp_prices.proofs.Flows.{IsLinear, at_only, class_table, flow, row_sum}
use Rattle.hsp_prices.proofs.GivenClasses.{IsGiven, class_amounts, given_classes}
use Rattle.hsp_prices.proofs.Lists.{all_both, same_sum, any_alike}
use Rattle.hsp_prices.proofs.Once.{sum_none, sum_once, sum_only}
use Rattle.hsp_prices.proofs.TableSums.{once_apart, table_all, table_apart, table_sum}

-- each amount is itself
itself : IsLinear (λ j v. v)
itself = record { none = λ j. refl; adds = λ j a b. refl }

module _ (at : Service) (plan : Best) (is : IsService at) (fits : is_best plan ≡ true) (rows : List Row) where
  -- two rows of one class that are placed are placed together
  placed_with : (a b : Row) (arcs : List Arc) → IsPlaced at plan a arcs → IsPlaced at plan b arcs
      → IsPlaced at plan (with_count_of a b) arcs
  placed_with a b [] own other = omega (arith, own, other)
  placed_with a b (x ∷ []) own other = tt
  placed_with a b (x ∷ z ∷ more) own other =
      any_alike (λ c. is_of at plan c (with_count_of a b)) (λ c. is_of at plan c a)
      (λ c. sym (alike_to at plan c a (with_count_of a b) ((classes_are_kinds at plan).kept a b))) plan.classes ∙ own

  -- so the rows of the table are placed
  placed : All (λ row. IsPlaced at plan row (least_of at plan row)) rows
      → All (λ row. IsPlaced at plan row (least_of at plan row)) (class_table at plan rows)
  placed all =
      All-from_recursion (λ row. IsPlaced at plan row (least_of at plan row)) (class_table at plan rows)
      (table_all (by_class at plan) (λ row. IsPlaced at plan row (least_of at plan row))
      (λ a b e own other.
      subst (IsPlaced at plan (with_count_of a b)) (sym (least_kept at plan a b))
      (placed_with a b (least_of at plan a) own
      (subst (IsPlaced at plan b) (sym (same_least at plan is a b e)) other))) rows
      (recursion_from_All (λ row. IsPlaced at plan row (least_of at plan row)) rows all))

  -- what the rows of a class ask for adds up as rows join
  asks : (c : Class) (a b : Row) → is_same_class at plan a b ≡ true
      → when (is_of at plan c (with_count_of a b)) (a.count + b.count)
      ≡ when (is_of at plan c a) a.count + when (is_of at plan c b) b.count
  asks c a b e =
      let own : is_of at plan c (with_count_of a b) ≡ is_of at plan c a =
      sym (alike_to at plan c a (with_count_of a b) ((classes_are_kinds at plan).kept a b)) in
      let other : is_of at plan c b ≡ is_of at plan c a = sym (alike_to at plan c a b e) in
      ap (λ t. when t (a.count + b.count)) own ∙ sums (is_of at plan c a)
      ∙ ap (λ t. when (is_of at plan c a) a.count + when t b.count) (sym other)
    where
      sums : (t : Bool) → when t (a.count + b.count) ≡ when t a.count + when t b.count
      sums true = refl
      sums false = refl

  -- a row of the table asks for what the rows of its class ask for
  asked : (c : Class) (k : ℕ) → k < length (class_table at plan rows)
      → is_of at plan c (row_at (class_table at plan rows) k) ≡ true
      → asked_of at plan rows c ≡ (row_at (class_table at plan rows) k).count
  asked c k l e =
      sym (table_sum (by_class at plan) (λ row. when (is_of at plan c row) row.count) (asks c) rows)
      ∙ sum_only (λ row. is_of at plan c row) (λ row. row.count) (class_table at plan rows) k no_row l e
      (once_apart (by_class at plan) (classes_are_kinds at plan) (λ t. is_of at plan c t) (same_of at plan c)
      (class_table at plan rows) (table_apart (by_class at plan) (classes_are_kinds at plan) rows))

  -- a row that is placed has what it asks for at its only server, or from its class
  by_place : (t : Row) (arcs : List Arc) → least_servers at plan t ≡ servers_of arcs → IsPlaced at plan t arcs
      → at_only (λ j v. v) t.count (only_arc arcs) + sum_by (λ c. when (is_of at plan c t) t.count) plan.classes
      ≡ t.count
  by_place t [] same none =
      ap (λ v. 0 + v)
      (same_by _ (λ c. 0) plan.classes (λ c. ap (λ v. when (is_of at plan c t) v) none ∙ when_zero (is_of at plan c t))
      ∙ sum_by_none plan.classes) ∙ sym none
  by_place t (a ∷ []) same any =
      let few : length (least_servers at plan t) ≡ 1 = ap length same in
      omega (
        arith,
        sum_none (λ c. is_of at plan c t) (λ c. t.count) plan.classes
            (no_class at plan t fits (omega (arith, few))),
      )
  by_place t (a ∷ b ∷ more) same some =
      omega (arith, sum_once (λ c. is_of at plan c t) t.count plan.classes some (one_of at plan t fits))

  module _ (sums : All (λ c. sum c.amounts ≡ asked_of at plan rows c) plan.classes)
      (all : All (λ row. IsPlaced at plan row (least_of at plan row)) rows) where
    -- a row of the table sends what it asks for
    pub sends_all : (k : ℕ) → k < length (class_table at plan rows) →
        sum_by (λ (a : Arc). flow at plan (row_at (class_table at plan rows) k) a.server)
        (least_of at plan (row_at (class_table at plan rows) k))
        ≡ (row_at (class_table at plan rows) k).count
    sends_all k l =
        let t = row_at (class_table at plan rows) k in
        row_sum (λ j v. v) itself at plan (given_classes plan fits) t
        ∙ ap (λ v. at_only (λ j v. v) t.count (only_arc (least_of at plan t)) + v)
        (same_sum _ (λ c. when (is_of at plan c t) t.count) plan.classes
        (all_both IsGiven (λ c. sum c.amounts ≡ asked_of at plan rows c) _ plan.classes
        (λ c given whole.
        when_same (is_of at plan c t) _ _ (λ e. class_amounts c given ∙ whole ∙ asked c k l e))
        (given_classes plan fits)
        (recursion_from_All (λ c. sum c.amounts ≡ asked_of at plan rows c) plan.classes sums)))
        ∙ by_place t (least_of at plan t) refl (placed all k no_row l)
