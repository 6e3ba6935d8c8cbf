use Rattle.std.proofs.Common.{◌≡◌, ◌∙◌, IfSome, arith, List, ℕ, ap, length, map, subst, sym}
use Rattle.hsp_price_plan.specs.PlanOfGroups.{IsPlanFor, IsPlanPast}
use Rattle.hsp_check.specs.Prices.{ArePrices}
use Rattle.hsp_prices.specs.KeptRows.{with_least}
use Rattle.hsp_price_plan.specs.Held.{AreWithin, HeldRows}
use Rattle.hsp_price_plan.proofs.StillRows.{least_leaves}
use Rattle.hsp_price_check.specs.Extras.{AreExtras, pay_by}
use Rattle.hsp_price_plan.proofs.HeldRows.{held_still, rows_within}
use Rattle.hsp_price_plan.proofs.PlanShown.{plan_too_large, plan_valid}
use Rattle.hsp_price_plan.proofs.rounds.plan_round.Goals as goal

pub prices_with_hosts-requires-clause-low : goal.prices_with_hosts-requires-clause-low
prices_with_hosts-requires-clause-low c =
    subst (λ (prices : List ℕ). ArePrices prices) (sym c.deref-2.ensures.value) c.requires.low.servers

pub prices_with_hosts-requires-clause-low_hosts : goal.prices_with_hosts-requires-clause-low_hosts
prices_with_hosts-requires-clause-low_hosts c =
    subst (λ (prices : List ℕ). ArePrices prices) (sym c.deref-3.ensures.value) c.requires.low.hosts

pub keep_least-kept-requires-clause-within : goal.keep_least-kept-requires-clause-within
keep_least-kept-requires-clause-within c =
    let numbers = c.args.numbers.now in
    let many : length numbers.server_hosts.items ≡ length c.deref-4.result.now =
    sym numbers.servers_many ∙ sym c.requires.met.many.servers
    ∙ ap (λ (prices : List ℕ). length prices) (sym c.deref-2.ensures.value) ∙ sym c.in_ok-extras.ensures.many
    ∙ ap (λ (list : List ℕ). length list) (sym c.deref-4.ensures.value) in
    subst (λ n. AreWithin n c.args.rows.now.rows) many (rows_within numbers c.args.rows.now.rows c.requires.rows)

pub returns-then-kept-gt0-clause-lasts : goal.returns-then-kept-gt0-clause-lasts
returns-then-kept-gt0-clause-lasts c =
    let extras = c.deref-4.result.now in
    rw c.keep_least-kept.ensures.kept
    (held_still (with_least (pay_by extras)) (least_leaves (pay_by extras)) c.args.numbers.now c.args.rows.now.rows)

pub returns-in-Some-clause-end : goal.returns-in-Some-clause-end
returns-in-Some-clause-end c =
    let numbers = c.args.numbers.now in
    let kept = c.args.rows.now.rows in
    let flow = c.args.flow in
    let extras = c.deref-4.result.now in
    let are : AreExtras numbers.server_hosts.items flow.server_prices.items flow.host_prices.items extras =
    rw (← c.deref.ensures.value, ← c.deref-2.ensures.value, ← c.deref-3.ensures.value, c.deref-4.ensures.value)
    c.in_ok-extras.ensures in
    let same : c.keep_least-kept.new.self ≡ c.args.rows.now =
    c.keep_least-kept.ensures.settled (omega (arith, c.if-kept-gt0.false)) in
    let settled : map (with_least (pay_by extras)) kept ≡ kept =
    ap (λ (held : HeldRows). held.rows) (sym c.keep_least-kept.ensures.kept ∙ same) in
    let found : IfSome c.in_ok-plan.field-0 (IsPlanFor numbers c.args.groups.now flow) = c.in_ok-plan.ensures.plan in
    plan_valid numbers kept c.args.groups.now flow extras c.in-Some.plan c.requires.groups c.requires.met are settled
    (rw c.in-Some.is at found)

pub returns-clause-fault : goal.returns-clause-fault
returns-clause-fault c =
    let numbers = c.args.numbers.now in
    let kept = c.args.rows.now.rows in
    let flow = c.args.flow in
    let extras = c.deref-4.result.now in
    let are : AreExtras numbers.server_hosts.items flow.server_prices.items flow.host_prices.items extras =
    rw (← c.deref.ensures.value, ← c.deref-2.ensures.value, ← c.deref-3.ensures.value, c.deref-4.ensures.value)
    c.in_ok-extras.ensures in
    let same : c.keep_least-kept.new.self ≡ c.args.rows.now =
    c.keep_least-kept.ensures.settled (omega (arith, c.if-kept-gt0.false)) in
    let settled : map (with_least (pay_by extras)) kept ≡ kept =
    ap (λ (held : HeldRows). held.rows) (sym c.keep_least-kept.ensures.kept ∙ same) in
    let past : IsPlanPast numbers c.args.groups.now flow = rw c.in-None.is at c.in_ok-plan.ensures.none in
    plan_too_large numbers kept c.args.groups.now flow extras past.plan c.requires.groups c.requires.met are settled
    c.requires.low past.is past.order past.past
