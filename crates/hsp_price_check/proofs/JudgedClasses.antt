-- What a plan's pass tests of classes is what the certificate has to meet.
use Rattle.std.proofs.Common.{◌≡◌, ◌<◌, ◌^◌, ◌∙◌, ℕ, zero, suc, true, false, List, [], ◌∷◌, All, sum, length, ap, sym}
use Rattle.std.proofs.Common.{slice_index_or, arith}
use Rattle.std.proofs.lemmas.Bool.{and_parts}
use Rattle.std.proofs.lemmas.List.{get_or_default}
use Rattle.std.specs.List.{AllByRecursion, list_all, list_any}
use Rattle.hsp_instance.specs.Instance.{Row}
use Rattle.hsp_prices.specs.Rows.{Service}
use Rattle.hsp_price_text.specs.Claim.{Best, Class, is_class}
use Rattle.hsp_price_text.proofs.DraftSteps.{best_parts}
use Rattle.hsp_prices.proofs.GivenClasses.{IsGiven, given_classes}
use Rattle.hsp_price_check.proofs.Capping.{kept_within}
use Rattle.hsp_price_check.proofs.Judging.{exact}
use Rattle.hsp_price_check.proofs.SmallAmounts.{amounts_small}
use Rattle.hsp_prices.specs.Least.{is_of}
use Rattle.hsp_prices.specs.Sums.{asked_of}
use Rattle.hsp_prices.specs.Verdict.{PlanMeets}
use Rattle.hsp_prices.specs.declared.verdict.PriceReason.TheVariants.{ClassSum, NotLeast}
use Rattle.hsp_price_check.specs.Passed.{capped, class_at, no_class}
use Rattle.hsp_price_check.specs.PlanPass.{IsPlanPass}
use Rattle.hsp_price_check.specs.Verdicts.{AreAskedFor}
use Rattle.hsp_price_check.specs.declared.plan_pass.PlanPass.{PlanPass}

-- the amounts of each class are small together
all_small : (classes : List Class) → list_all is_class classes ≡ true → AllByRecursion IsGiven classes → (k : ℕ)
    → k < length classes → sum (slice_index_or classes k no_class).amounts < 2 ^ 64
all_small [] e given k l = absurd (omega arith)
all_small (c ∷ classes) e given zero l =
    amounts_small c (and_parts (is_class c) (list_all is_class classes) e).0 given.0
all_small (c ∷ classes) e given (suc k) l =
    all_small classes (and_parts (is_class c) (list_all is_class classes) e).1 given.1 k (omega (arith, l))

module _ (at : Service) (plan : Best) (rows : List Row) (pass : PlanPass) (is : IsPlanPass at plan rows pass) where
  -- each class has a row where each flag is set
  pub all_seen : All (λ flag. flag ≡ true) pass.sums.seen.items → PlanMeets at rows plan NotLeast
  all_seen set k d l =
      let inside : k < length pass.sums.seen.items = omega (arith, l, is.sums.seen_many) in
      let own : list_any (λ row. is_of at plan (class_at plan k) row) rows ≡ true =
      sym (is.sums.seen k l) ∙ set k false inside in
      rw (get_or_default plan.classes k d no_class l) own

  -- and only there
  pub seen_all : PlanMeets at rows plan NotLeast → All (λ flag. flag ≡ true) pass.sums.seen.items
  seen_all least k d l =
      let inside : k < length plan.classes = omega (arith, l, is.sums.seen_many) in
      get_or_default pass.sums.seen.items k d false l ∙ is.sums.seen k inside ∙ least k no_class inside

  -- sums of classes are those of their rows where the kept sums agree, the sums being small
  pub asked_sums : AreAskedFor plan.classes pass.sums.asked.items → PlanMeets at rows plan ClassSum
  asked_sums are k d l =
      let at_k = class_at plan k in
      let small : sum at_k.amounts < 2 ^ 64 =
      all_small plan.classes (best_parts plan is.within).classes (given_classes plan is.within) k l in
      let kept : capped (asked_of at plan rows at_k) ≡ sum at_k.amounts =
      sym (is.sums.asked k l) ∙ sym (are k l) ∙ kept_within (sum at_k.amounts) (sum at_k.amounts) small (omega arith) in
      rw (get_or_default plan.classes k d no_class l)
      (sym (exact (asked_of at plan rows at_k) (sum at_k.amounts) small kept))

  -- and only there
  pub sums_asked : PlanMeets at rows plan ClassSum → AreAskedFor plan.classes pass.sums.asked.items
  sums_asked sums k l =
      ap capped (sums k no_class l) ∙ sym (is.sums.asked k l)
