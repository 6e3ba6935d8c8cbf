-- The parts of a plan, and whether it is one of a text.
use Rattle.std.proofs.Common.{◌≡◌, ℕ, ◌<◌, ◌≤◌, ◌^◌, ◌∙◌, inl, inr, false, List}
use Rattle.std.proofs.Common.{refl, ap, sym, subst, arith}
use Rattle.std.specs.Prelude.{IfNone, IfSome, Option, Some, None, if◌then◌else◌}
use Rattle.std.proofs.lemmas.Bool.{and_left, cases_Bool, lt-leb}
use Rattle.hsp_text.specs.declared.limits.TheConstants.{GREATEST_SUM}
use Rattle.hsp_instance.specs.declared.arc.Arc.{Arc}
use Rattle.hsp_network.specs.Answer.{HasLengths}
use Rattle.hsp_network.specs.declared.network.PricedFlow.{PricedFlow}
use Rattle.hsp_price_text.specs.Claim.{Best, Class, if_best, is_best}
use Rattle.hsp_prices.specs.Groups.{Group}
use Rattle.hsp_prices.specs.Solved.{AreClassesBy, cost_of}
use Rattle.hsp_price_check.specs.Extras.{AreExtras, pay_by}
use Rattle.hsp_price_check.specs.Passed.{capped}
use Rattle.hsp_price_check.specs.declared.numbers.ServiceNumbers.{ServiceNumbers}
use Rattle.hsp_price_check.proofs.PricePays.{same_pay}
use Rattle.hsp_price_plan.specs.PlanOfGroups.{IsPlanFor}
use Rattle.hsp_price_plan.specs.Solving.{group_network}

-- what holds of a plan holds of it where it is one of a text
pub some_best : (P : Best → Type 0) (plan : Best) (found : Option Best) → found ≡ if_best plan → P plan
    → IfSome found P
some_best P plan found is holds = elim (cases_Bool (is_best plan)) [
  | inl t ↦
      subst (λ (o : Option Best). IfSome o P) (sym (is ∙ ap (λ b. if b then Some plan else None) t)) holds
  | inr f ↦
      subst (λ (o : Option Best). IfSome o P) (sym (is ∙ ap (λ b. if b then Some plan else None) f)) tt
]

-- and there is none only where it isn't
pub none_best : (N : Type 0) (plan : Best) (found : Option Best) → found ≡ if_best plan
    → (is_best plan ≡ false → N) → IfNone found N
none_best N plan found is past = elim (cases_Bool (is_best plan)) [
  | inl t ↦
      subst (λ (o : Option Best). IfNone o N) (sym (is ∙ ap (λ b. if b then Some plan else None) t)) tt
  | inr f ↦
      subst (λ (o : Option Best). IfNone o N) (sym (is ∙ ap (λ b. if b then Some plan else None) f)) (past f)
]

-- a kept sum of 64 bits is the sum
pub kept_small : (n kept : ℕ) → kept ≡ capped n → kept < 2 ^ 64 → kept ≡ n
kept_small n kept is small = omega arith

-- one of more bits is no more than the sum
pub kept_large : (n kept : ℕ) → kept ≡ capped n → 2 ^ 64 ≤ kept → 2 ^ 64 ≤ n
kept_large n kept is large = omega arith

-- a plan that costs so much is none of a text
pub past_cost : (plan : Best) → 2 ^ 64 ≤ plan.cost → is_best plan ≡ false
past_cost plan large = and_left _ _ (lt-leb plan.cost GREATEST_SUM (omega (arith, large)))

-- the plan of a flow
abbrev pub plan_by : PricedFlow → ℕ → List Class → Best
plan_by flow cost classes = record {
  cost = cost;
  server_prices = flow.server_prices.items;
  host_prices = flow.host_prices.items;
  classes = classes;
}

-- has what it has to, by the numbers for the servers and the classes by these
pub is_plan : (numbers : ServiceNumbers) (groups : List Group) (flow : PricedFlow) (extras : List ℕ) (cost : ℕ)
    (classes : List Class) → HasLengths (group_network numbers groups) flow
    → AreExtras numbers.server_hosts.items flow.server_prices.items flow.host_prices.items extras
    → AreClassesBy (pay_by extras) groups flow.flows.items classes → cost ≡ cost_of groups flow.flows.items
    → IsPlanFor numbers groups flow (plan_by flow cost classes)
is_plan numbers groups flow extras cost classes lengths of are cost_is at numbers_are = record {
  server_prices = refl;
  host_prices = refl;
  classes =
      subst (λ (pay : Arc → ℕ). AreClassesBy pay groups flow.flows.items classes)
      (same_pay at numbers numbers_are (plan_by flow cost classes) extras of
      (lengths.servers ∙ numbers.servers_many)) are;
  cost = cost_is;
}
