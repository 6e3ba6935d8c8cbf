use Rattle.std.proofs.Common.{◌≡◌, ◌*◌, ◌∙◌, ℕ, ap, ap₂, inl, inr}
use Rattle.std.specs.List.{zip}
use Rattle.hsp_prices.specs.Sums.{class_cost, cost_at}
use Rattle.hsp_price_check.specs.Classes.{service_of}
use Rattle.hsp_price_check.proofs.Capping.{term_added}
use Rattle.hsp_price_check.proofs.ClassSums.{all_added}
use Rattle.hsp_price_check.proofs.class_costs.class_cost.Goals as goal

pub loop-server-preserved : goal.loop-server-preserved
loop-server-preserved c =
    let at = service_of c.args.costs.now c.args.instance.now in
    let class = c.args.class.now in
    let server = c.in-Some.server.now in
    let amount = c.in-Some.amount.now in
    let region = c.deref-in-loop-server.ensures.value ∙ ap (λ class. class.region) c.class.view_is in
    let term : c.from-cost.result * c.from.result ≡ cost_at at class.region server * amount =
    ap₂ (λ m n. m * n) (c.from-cost.ensures ∙ c.cost_at.ensures.cost ∙ ap (λ r. cost_at at r server) region)
    c.from.ensures in
    let before = rw (c.in-Some.ensures.steps.0, c.in-Some.ensures.steps.1) at c.loop-server.invariant.cost in
    record {
      small = c.saturating_add-sum.type_inv;
      cost =
          rw c.saturating_add-sum.ensures
          (term_added (λ (sent : ℕ × ℕ). cost_at at class.region sent.0 * sent.1) (server, amount)
          (zip c.next.new.self.a.rest.now c.next.new.self.b.rest.now) c.loop-server.sum
          (c.from-cost.result * c.from.result) (class_cost at class) term before);
    }

pub returns : goal.returns
returns c =
    let at = service_of c.args.costs.now c.args.instance.now in
    let class = c.args.class.now in
    all_added (λ (sent : ℕ × ℕ). cost_at at class.region sent.0 * sent.1) c.loop-server.server-iterator.a.rest.now
    c.loop-server.server-iterator.b.rest.now c.loop-server.sum (class_cost at class)
    (elim c.in-None.ensures.steps [ inl (x, (none, same)) ↦ inl none | inr (x, (none, same)) ↦ inr none ])
    c.loop-server.invariant.small c.loop-server.invariant.cost
