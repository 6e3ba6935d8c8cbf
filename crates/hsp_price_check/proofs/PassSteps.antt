-- A row that is added to the sums of the rows before it at its place.
use Rattle.std.proofs.Common.{◌≡◌, ◌<◌, ◌+◌, ◌∙◌, ℕ, Bool, true, false, List, [], ◌∷◌, ◌++◌, length}
use Rattle.std.proofs.Common.{refl, ap, sym, subst, arith, All, length-append}
use Rattle.std.specs.Prelude.{◌↔◌, ◌||◌, IsTrue, if◌then◌else◌}
use Rattle.std.specs.List.{list_any}
use Rattle.std.proofs.lemmas.List.{get_or_append_left, get_or_push, length_push}
use Rattle.std.proofs.lemmas.List.Elements.{All-push}
use Rattle.std.proofs.lemmas.List.Folds.{list_any-append}
use Rattle.std.proofs.lemmas.List.Sums.{sum_by_push}
use Rattle.hsp_instance.specs.Instance.{Row}
use Rattle.hsp_prices.specs.Rows.{Service}
use Rattle.hsp_price_text.specs.Claim.{Best, is_best}
use Rattle.hsp_prices.specs.Least.{is_of, least_of}
use Rattle.hsp_prices.specs.Sums.{asked_of, cost_in_all, load_at, row_cost, row_load}
use Rattle.hsp_prices.specs.Verdict.{IsPlaced}
use Rattle.hsp_price_check.specs.Passed.{AreSums, IsAdded, IsPlaceOf, capped, class_at, spent}
use Rattle.hsp_price_check.specs.declared.sums.PassSums.{PassSums}
use Rattle.hsp_price_check.specs.declared.sums.RowPlace.{RowPlace}
use Rattle.hsp_price_check.proofs.OneRow.{class_is, cost_is, flag_kept, flag_was, hits, load_is, row_placed, taken}
use Rattle.hsp_price_check.proofs.SumSteps.{asked_many, asked_step, cost_step, load_many, load_step, seen_many}
use Rattle.hsp_price_check.proofs.SumSteps.{seen_step}

-- what holds of all with one more holds of all before it
all_front : {A : Type 0} (P : A → Type 0) (xs ys : List A) → All P (xs ++ ys) → All P xs
all_front P xs ys all k d l =
    subst P (get_or_append_left xs ys d k l) (all k d (omega (arith, length-append xs ys)))

-- and of the last one
all_last : {A : Type 0} (P : A → Type 0) (xs : List A) (x : A) → All P (xs ++ x ∷ []) → P x
all_last P xs x all =
    subst P (get_or_push xs x x (length xs) refl) (all (length xs) x (omega (arith, length_push xs x)))

-- one more or before, in either order
any_last : (s t : Bool) → (s || (t || false)) ≡ (t || s)
any_last true true = refl
any_last true false = refl
any_last false true = refl
any_last false false = refl

-- ---- all sums

module _ (at : Service) (plan : Best) (fits : is_best plan ≡ true) (rows : List Row) (row : Row) (place : RowPlace)
    (old new : PassSums) (sums : AreSums at plan rows old) (is : IsPlaceOf at plan row place)
    (added : IsAdded old place row.count new) where
  -- what a server takes
  load_more : (j : ℕ) → load_at at plan (rows ++ row ∷ []) j ≡ load_at at plan rows j + taken place row.count j
  load_more j = omega (arith, sum_by_push (row_load at plan j) rows row, load_is at plan row place j is)

  -- what all of it costs
  cost_more : cost_in_all at plan (rows ++ row ∷ []) ≡ cost_in_all at plan rows + spent place row.count
  cost_more = omega (arith, sum_by_push (row_cost at plan) rows row, cost_is at plan row place is)

  -- what a class asks for
  asked_more : (k : ℕ) → k < length plan.classes
      → asked_of at plan (rows ++ row ∷ []) (class_at plan k)
      ≡ asked_of at plan rows (class_at plan k) + (if hits place k then row.count else 0)
  asked_more k l =
      sum_by_push (λ row. if is_of at plan (class_at plan k) row then row.count else 0) rows row
      ∙ ap (λ t. asked_of at plan rows (class_at plan k) + (if t then row.count else 0))
      (class_is at plan row fits place k is l)

  -- the flag of a class
  seen_more : (k : ℕ) → k < length plan.classes
      → list_any (λ row. is_of at plan (class_at plan k) row) (rows ++ row ∷ [])
      ≡ (hits place k || list_any (λ row. is_of at plan (class_at plan k) row) rows)
  seen_more k l =
      let test = λ (row : Row). is_of at plan (class_at plan k) row in
      list_any-append test rows (row ∷ [])
      ∙ any_last (list_any test rows) (test row)
      ∙ ap (λ t. t || list_any test rows) (class_is at plan row fits place k is l)

  -- whether each row is placed
  placed_more : IsTrue new.placed ↔ All (λ row. IsPlaced at plan row (least_of at plan row)) (rows ++ row ∷ [])
  placed_more = (
    λ e.
        let flag = sym added.placed ∙ e in
        All-push (λ row. IsPlaced at plan row (least_of at plan row)) rows row
        (sums.placed.0 (flag_was at plan row old.placed place flag)) (row_placed at plan row old.placed place is flag),
    λ all.
        added.placed
        ∙ flag_kept at plan row old.placed place is
        (sums.placed.1 (all_front (λ row. IsPlaced at plan row (least_of at plan row)) rows (row ∷ []) all))
        (all_last (λ row. IsPlaced at plan row (least_of at plan row)) rows row all),
  )

  -- the sums with the row are those of the rows with it
  pub sums_more : AreSums at plan (rows ++ row ∷ []) new
  sums_more = record {
    loads_many = load_many old.loads.items new.loads.items row.count place added.loads ∙ sums.loads_many;
    loads = λ j l.
        load_step old.loads.items new.loads.items row.count place j (load_at at plan rows j) added.loads
        (omega (arith, sums.loads_many)) (sums.loads j l)
        ∙ ap capped (sym (load_more j));
    cost =
        cost_step place row.count (cost_in_all at plan rows) old.cost new.cost sums.cost added.cost
        ∙ ap capped (sym cost_more);
    asked_many = asked_many old.asked.items new.asked.items row.count place added.asked ∙ sums.asked_many;
    asked = λ k l.
        asked_step old.asked.items new.asked.items row.count place k (asked_of at plan rows (class_at plan k))
        added.asked (omega (arith, sums.asked_many)) (sums.asked k l)
        ∙ ap capped (sym (asked_more k l));
    seen_many = seen_many old.seen.items new.seen.items place added.seen ∙ sums.seen_many;
    seen = λ k l.
        seen_step old.seen.items new.seen.items place k added.seen (omega (arith, sums.seen_many))
        ∙ ap (λ t. hits place k || t) (sums.seen k l) ∙ sym (seen_more k l);
    placed = placed_more;
  }
