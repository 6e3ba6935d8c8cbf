use Rattle.std.proofs.Common.{◌≢◌, ◌+◌, ◌<◌, ◌∙◌, inl, inr, ap₂, arith, length, slice_index}
use Rattle.std.proofs.Common.{get_or-set_other, get_or-set_same, length-set}
use Rattle.std.proofs.lemmas.Bool.{cases_eq}
use Rattle.hsp_prices.specs.Solved.{flow_to}
use Rattle.hsp_price_plan.proofs.ClassTurns.{all_added}
use Rattle.hsp_price_plan.proofs.SentFlows.{to_within}
use Rattle.hsp_price_plan.proofs.classes.add_flows.Goals as goal

pub overflow_add-amounts : goal.overflow_add-amounts
overflow_add-amounts c =
    let place = c.loop-place.place in
    omega (
      arith,
      c.loop-place.invariant.behind place (omega arith),
      c.flow_to.ensures,
      to_within (slice_index c.args.servers.now place) c.args.group.now.arcs c.args.flows.now,
      c.requires.room place 0 (omega (arith, c.requires.many)),
    )

pub loop-place-preserved : goal.loop-place-preserved
loop-place-preserved c =
    let amounts = c.loop-place.amounts in
    let place = c.loop-place.place in
    let value = slice_index amounts place + c.flow_to.result in
    let inside : place < length amounts = omega (arith, c.loop-place.invariant.many, c.requires.many) in
    record {
      many = length-set amounts place value ∙ c.loop-place.invariant.many;
      before = λ k l. elim (cases_eq k place) [
        | inl e ↦
            rw e
            (get_or-set_same amounts place value 0 inside
            ∙ ap₂ (λ m n. m + n) (c.loop-place.invariant.behind place (omega arith)) c.flow_to.ensures)
        | inr ne ↦
            get_or-set_other amounts place k value 0 ne ∙ c.loop-place.invariant.before k (omega arith)
      ];
      behind = λ k l.
          let other : k ≢ place = λ e. absurd (omega arith) in
          get_or-set_other amounts place k value 0 other ∙ c.loop-place.invariant.behind k (omega arith);
    }

pub returns : goal.returns
returns c =
    all_added (λ j. flow_to j (c.args.group.now, c.args.flows.now)) c.args.amounts.now c.loop-place.amounts
    c.args.servers.now c.loop-place.invariant.many c.requires.many (λ k l.
    c.loop-place.invariant.before k (omega arith))
