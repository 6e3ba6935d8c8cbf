-- What a plan's pass starts with.
use Rattle.std.proofs.Common.{◌≡◌, ◌<◌, ◌^◌, ◌∙◌, ℕ, true, false, List, [], nat_le, length, slice_index}
use Rattle.std.proofs.Common.{sum_by, inl, inr, ap, sym, arith, zero-add, get_or}
use Rattle.std.proofs.lemmas.Bool.{cases_lt}
use Rattle.std.proofs.lemmas.List.{get_or-replicate, get_or_past, length-replicate}
use Rattle.std.proofs.Math.ListN.{replicate}
use Rattle.std.proofs.lemmas.Bool.{and_parts}
use Rattle.std.specs.List.{list_all}
use Rattle.hsp_check.specs.ArcFlows.{flag_at}
use Rattle.hsp_prices.specs.Rows.{Service}
use Rattle.hsp_prices.specs.Sums.{class_cost, class_load}
use Rattle.hsp_price_check.specs.Classes.{AreClassLoads}
use Rattle.hsp_price_check.specs.Passed.{AreSums, capped}
use Rattle.hsp_price_check.specs.declared.sums.PassSums.{PassSums}
use Rattle.hsp_cert.specs.Certificate.{is_price}
use Rattle.hsp_check.proofs.Ranges.{prices_low}
use Rattle.hsp_check.specs.Prices.{ArePrices}
use Rattle.hsp_price_text.specs.Claim.{Best, is_best}
use Rattle.hsp_price_text.proofs.DraftSteps.{best_parts}

module _ (plan : Best) (is : is_best plan ≡ true) where
  -- the prices of servers are within their limit
  pub server_prices_low : ArePrices plan.server_prices
  server_prices_low =
      prices_low plan.server_prices
      (and_parts (nat_le (length plan.server_prices) 1024) (list_all is_price plan.server_prices)
      (best_parts plan is).servers).1

  -- and those of hosts
  pub host_prices_low : ArePrices plan.host_prices
  host_prices_low =
      prices_low plan.host_prices
      (and_parts (nat_le (length plan.host_prices) 1024) (list_all is_price plan.host_prices)
      (best_parts plan is).hosts).1

  -- there are not too many classes
  pub classes_few : length plan.classes < 2 ^ 32
  classes_few = let few = (best_parts plan is).few in grind (arith, few)

-- numbers that are all one number
pub repeated : {A : Type 0} (xs : List A) (n : ℕ) (x d : A) → xs ≡ replicate n x → d ≡ x → (k : ℕ)
    → get_or xs k d ≡ x
repeated xs n x d is same k = elim (cases_lt k n) [
  | inl inside ↦ ap (λ list. get_or list k d) is ∙ get_or-replicate n k x d inside
  | inr past ↦
      ap (λ list. get_or list k d) is
      ∙ get_or_past (replicate n x) k d (omega (arith, past, length-replicate n x)) ∙ same
]

-- the sums of classes before any row came
pub start_sums : (at : Service) (plan : Best) (sums : PassSums)
    → AreClassLoads (length at.servers) plan.classes sums.loads.items
    → sums.cost ≡ capped (sum_by (class_cost at) plan.classes)
    → length sums.asked.items ≡ length plan.classes → ((k : ℕ) → slice_index sums.asked.items k ≡ 0)
    → length sums.seen.items ≡ length plan.classes → ((k : ℕ) → flag_at sums.seen.items k ≡ false)
    → sums.placed ≡ true → AreSums at plan [] sums
start_sums at plan sums loads cost many zero seen_many unset placed = record {
  loads_many = loads.many;
  loads = λ j l. loads.each j l ∙ ap capped (sym (zero-add (sum_by (class_load j) plan.classes)));
  cost = cost ∙ ap capped (sym (zero-add (sum_by (class_cost at) plan.classes)));
  asked_many = many;
  asked = λ k l. zero k;
  seen_many = seen_many;
  seen = λ k l. unset k;
  placed = ((λ t k d l. absurd (omega (arith, l))), (λ all. placed));
}
