use Rattle.std.proofs.Common.{◌≡◌, ◌∙◌, ap, sym, arith}
use Rattle.hsp_price_text.specs.Claim.{Best}
use Rattle.std.proofs.lemmas.Bool.{true≢false}
use Rattle.hsp_check.specs.Lists.{AreIdle, AreWithin}
use Rattle.hsp_prices.specs.Verdict.{PlanMeets}
use Rattle.hsp_prices.specs.declared.verdict.PriceReason.TheVariants.{Cost, Load}
use Rattle.hsp_price_check.proofs.InOrder.{all, of_loads}
use Rattle.hsp_price_check.proofs.Judging.{cost_met, idle_hosts, idle_servers, meets_cost, meets_idle, meets_loads}
use Rattle.hsp_price_check.proofs.Judging.{within_hosts}
use Rattle.hsp_price_check.proofs.plan_pass.PlanPass.judge_hosts.Goals as goal

pub returns-then-not-are_within : goal.returns-then-not-are_within
returns-then-not-are_within c at plan rows pass meets = (
  (λ load.
      let within : AreWithin c.deref.result.now c.args.host_loads.now =
      rw c.deref.ensures.value
      (within_hosts at plan rows c.args.self.now pass c.requires.within c.args.host_loads.now c.requires.hosts
      c.requires.many load) in
      absurd (true≢false (sym (c.are_within.ensures.1 within) ∙ c.if-not-are_within.true))),
  of_loads at rows plan pass.shape pass.there meets 6 (omega arith) (λ l. absurd (omega (arith, l)))
      (λ l. absurd (omega (arith, l))),
)

pub returns-then-from-self : goal.returns-then-from-self
returns-then-from-self c at plan rows pass meets =
    let load : PlanMeets at rows plan Load =
    meets_loads at plan rows c.args.self.now pass c.requires.within c.args.host_loads.now c.requires.hosts
    c.requires.many (rw (← c.deref.ensures.value) (c.are_within.ensures.0 c.if-not-are_within.false)) in (
      (λ cost.
          let same : c.from.result ≡ c.args.self.now.sums.cost =
          c.from.ensures ∙ c.cost.ensures.cost ∙ ap (λ (b : Best). b.cost) pass.plan_is
          ∙ cost_met at plan rows c.args.self.now pass cost in
          absurd (grind (arith, same, c.if-from-self.true))),
      of_loads at rows plan pass.shape pass.there meets 7 (omega arith) (λ l. load) (λ l. absurd (omega (arith, l))),
    )

pub returns-then-not-idle_are_free : goal.returns-then-not-idle_are_free
returns-then-not-idle_are_free c at plan rows pass meets =
    let load : PlanMeets at rows plan Load =
    meets_loads at plan rows c.args.self.now pass c.requires.within c.args.host_loads.now c.requires.hosts
    c.requires.many (rw (← c.deref.ensures.value) (c.are_within.ensures.0 c.if-not-are_within.false)) in
    let own : c.args.self.now.plan.now.cost ≡ plan.cost = ap (λ (b : Best). b.cost) pass.plan_is in
    let same : plan.cost ≡ c.args.self.now.sums.cost =
    grind (arith, own, c.from.ensures, c.cost.ensures.cost, c.if-from-self.false) in
    let cost : PlanMeets at rows plan Cost = meets_cost at plan rows c.args.self.now pass same in
    let prices : c.server_prices.result.now ≡ plan.server_prices =
    c.server_prices.ensures ∙ ap (λ (b : Best). b.server_prices) pass.plan_is in (
      (λ idle.
          let free : AreIdle c.deref-2.result.now c.deref-3.result.now c.server_prices.result.now =
          rw (c.deref-2.ensures.value, c.deref-3.ensures.value, prices)
          (idle_servers at plan rows c.args.self.now pass c.requires.within c.args.host_loads.now c.requires.hosts
          c.requires.many idle) in
          absurd (true≢false (sym (c.idle_are_free.ensures.1 free) ∙ c.if-not-idle_are_free.true))),
      of_loads at rows plan pass.shape pass.there meets 8 (omega arith) (λ l. load) (λ l. cost),
    )

pub returns-then-not-idle_are_free-2 : goal.returns-then-not-idle_are_free-2
returns-then-not-idle_are_free-2 c at plan rows pass meets =
    let load : PlanMeets at rows plan Load =
    meets_loads at plan rows c.args.self.now pass c.requires.within c.args.host_loads.now c.requires.hosts
    c.requires.many (rw (← c.deref.ensures.value) (c.are_within.ensures.0 c.if-not-are_within.false)) in
    let own : c.args.self.now.plan.now.cost ≡ plan.cost = ap (λ (b : Best). b.cost) pass.plan_is in
    let same : plan.cost ≡ c.args.self.now.sums.cost =
    grind (arith, own, c.from.ensures, c.cost.ensures.cost, c.if-from-self.false) in
    let cost : PlanMeets at rows plan Cost = meets_cost at plan rows c.args.self.now pass same in
    let prices : c.host_prices.result.now ≡ plan.host_prices =
    c.host_prices.ensures ∙ ap (λ (b : Best). b.host_prices) pass.plan_is in (
      (λ idle.
          let free : AreIdle c.deref-4.result.now c.args.host_loads.now c.host_prices.result.now =
          rw (c.deref-4.ensures.value, prices)
          (idle_hosts at plan rows c.args.self.now pass c.requires.within c.args.host_loads.now c.requires.hosts
          c.requires.many idle) in
          absurd (true≢false (sym (c.idle_are_free-2.ensures.1 free) ∙ c.if-not-idle_are_free-2.true))),
      of_loads at rows plan pass.shape pass.there meets 8 (omega arith) (λ l. load) (λ l. cost),
    )

pub returns : goal.returns
returns c at plan rows pass meets =
    let load : PlanMeets at rows plan Load =
    meets_loads at plan rows c.args.self.now pass c.requires.within c.args.host_loads.now c.requires.hosts
    c.requires.many (rw (← c.deref.ensures.value) (c.are_within.ensures.0 c.if-not-are_within.false)) in
    let own : c.args.self.now.plan.now.cost ≡ plan.cost = ap (λ (b : Best). b.cost) pass.plan_is in
    let same : plan.cost ≡ c.args.self.now.sums.cost =
    grind (arith, own, c.from.ensures, c.cost.ensures.cost, c.if-from-self.false) in
    let cost : PlanMeets at rows plan Cost = meets_cost at plan rows c.args.self.now pass same in
    let prices : c.server_prices.result.now ≡ plan.server_prices =
    c.server_prices.ensures ∙ ap (λ (b : Best). b.server_prices) pass.plan_is in
    let host_prices : c.host_prices.result.now ≡ plan.host_prices =
    c.host_prices.ensures ∙ ap (λ (b : Best). b.host_prices) pass.plan_is in
    let servers : AreIdle c.args.self.now.numbers.capacities.items c.args.self.now.sums.loads.items plan.server_prices =
    rw (← c.deref-2.ensures.value, ← c.deref-3.ensures.value, ← prices)
    (c.idle_are_free.ensures.0 c.if-not-idle_are_free.false) in
    let hosts : AreIdle c.args.self.now.numbers.limits.items c.args.host_loads.now plan.host_prices =
    rw (← c.deref-4.ensures.value, ← host_prices) (c.idle_are_free-2.ensures.0 c.if-not-idle_are_free-2.false) in
    all at rows plan pass.shape pass.there meets load cost
    (meets_idle at plan rows c.args.self.now pass c.requires.within c.args.host_loads.now c.requires.hosts
    c.requires.many servers hosts)
