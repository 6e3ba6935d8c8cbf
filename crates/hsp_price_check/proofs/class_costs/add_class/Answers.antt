use Rattle.std.proofs.Common.{◌≡◌, ◌+◌, ◌<◌, ℕ, inl, inr, length, length-set, slice_index, arith}
use Rattle.std.proofs.lemmas.List.Elements.{All-head, All-tail}
use Rattle.std.specs.List.{zip}
use Rattle.hsp_prices.specs.Sums.{class_load}
use Rattle.hsp_price_check.specs.Passed.{capped}
use Rattle.hsp_price_check.proofs.ClassSums.{all_added, brought, load_step, set_small}
use Rattle.hsp_price_check.proofs.class_costs.add_class.Goals as goal

pub loop-server-preserved : goal.loop-server-preserved
loop-server-preserved c =
    let loads = c.loop-server.loads in
    let at = c.in-Some.server.now in
    let amount = c.in-Some.amount.now in
    let steps = c.in-Some.ensures.steps in
    let there = rw steps.0 at c.loop-server.invariant.there in
    let inside : at < length loads = All-head (λ (at : ℕ). at < length loads) at c.next.new.self.a.rest.now there in
    let is : c.saturating_add.result ≡ capped (slice_index loads at + amount) =
    omega (arith, c.saturating_add.ensures, c.from.ensures) in
    record {
      there = λ k d l.
          let next = All-tail (λ (at : ℕ). at < length loads) at c.next.new.self.a.rest.now there k d l in
          omega (arith, length-set loads at c.saturating_add.result, next);
      small = λ j l.
          set_small loads at c.saturating_add.result j _ inside c.saturating_add.type_inv
          (c.loop-server.invariant.small j (omega (arith, length-set loads at c.saturating_add.result)));
      loads = λ j l.
          let before = c.loop-server.invariant.loads j (omega (arith, length-set loads at c.saturating_add.result)) in
          rw is
          (load_step loads at amount j (slice_index c.args.loads.now j + class_load j c.args.class.now)
          (zip c.next.new.self.a.rest.now c.next.new.self.b.rest.now) inside
          (rw (steps.0, steps.1) at before));
    }

pub returns : goal.returns
returns c = record {
  many = c.loop-server.auto.loads;
  each = λ j l.
      let inside : j < length c.loop-server.loads = omega (arith, c.loop-server.auto.loads) in
      all_added (brought j) c.loop-server.server-iterator.a.rest.now c.loop-server.server-iterator.b.rest.now
      (slice_index c.loop-server.loads j) (slice_index c.args.loads.now j + class_load j c.args.class.now)
      (elim c.in-None.ensures.steps [ inl (x, (none, same)) ↦ inl none | inr (x, (none, same)) ↦ inr none ])
      (c.loop-server.invariant.small j inside) (c.loop-server.invariant.loads j inside);
}
