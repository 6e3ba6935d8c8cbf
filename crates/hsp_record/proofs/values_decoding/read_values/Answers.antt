use Rattle.std.proofs.Common.{◌≡◌, false, [], refl, sym, ◌∙◌}
use Rattle.std.proofs.lemmas.Result.{err_from_is_err_and}
use Rattle.hsp_record.specs.declared.fault.ReadError.TheVariants.{Stopped}
use Rattle.hsp_record.specs.declared.fault.Stop.TheVariants.{Twice}
use Rattle.hsp_record.specs.Values.{indices}
use Rattle.hsp_record.specs.Reading.{is_one_of, index_at, values_at}
use Rattle.hsp_record.proofs.Loop.{goes_on, ends, is_done}
use Rattle.hsp_record.proofs.ValueLoop.{HasIndices-more, values_steps}
use Rattle.hsp_record.proofs.values_decoding.read_values.Goals as goal

pub returns-in_err-index : goal.returns-in_err-index
unfolding index_at
returns-in_err-index c =
    let p = err_from_is_err_and c.from_residual.result c.from_residual.ensures.1 in
    rw (p.1, p.2)
    (ends values_steps (Stopped c.in_err-index.field-0.0) c.loop.values.items c.args.count c.loop.counter
    c.loop.rest.now (values_at [] c.args.count c.args.bytes.now) c.loop-test.true (rw c.in_err-index.ensures refl)
    c.loop.invariant.read)

pub returns-then-contains : goal.returns-then-contains
unfolding index_at
returns-then-contains c =
    let met = sym (c.loop.invariant.met c.in_ok-index.index) ∙ sym c.contains.ensures ∙ c.if-contains.true in
    ends values_steps (Stopped (Twice c.in_ok-index.index)) c.loop.values.items c.args.count c.loop.counter
    c.loop.rest.now (values_at [] c.args.count c.args.bytes.now) c.loop-test.true
    (rw (c.in_ok-index.ensures, met) refl) c.loop.invariant.read

pub returns-in_err-value : goal.returns-in_err-value
unfolding index_at
returns-in_err-value c =
    let p = err_from_is_err_and c.from_residual-in_err-value.result c.from_residual-in_err-value.ensures.1 in
    let new = sym (c.loop.invariant.met c.in_ok-index.index) ∙ sym c.contains.ensures ∙ c.if-contains.false in
    rw (p.1, p.2)
    (ends values_steps (Stopped c.in_err-value.field-0.0) c.loop.values.items c.args.count c.loop.counter
    c.loop.rest.now (values_at [] c.args.count c.args.bytes.now) c.loop-test.true
    (rw (c.in_ok-index.ensures, new, c.in_err-value.ensures) refl) c.loop.invariant.read)

pub loop-preserved : goal.loop-preserved
unfolding index_at
loop-preserved c =
    let index = c.in_ok-index.index in
    let new : is_one_of (indices c.loop.values.items) index ≡ false =
    sym (c.loop.invariant.met index) ∙ sym c.contains.ensures ∙ c.if-contains.false in
    rw c.in_ok-push.ensures.items (record {
      met =
          HasIndices-more c.loop.met c.insert.new.self c.loop.values.items index c.in_ok-index.body.now
          c.in_ok-value.value c.in_ok-value.after.now c.in_ok-value.ensures c.loop.invariant.met
          c.in_ok-insert.ensures.updates;
      read =
          goes_on values_steps c.loop.values.items c.args.count c.loop.counter c.loop.rest.now c.in_ok-value.value
          c.in_ok-value.after.now (values_at [] c.args.count c.args.bytes.now) c.loop-test.true
          (rw (c.in_ok-index.ensures, new, c.in_ok-value.ensures) refl) c.loop.invariant.read;
    })

pub returns : goal.returns
returns c =
    is_done values_steps c.loop.values.items c.args.count c.loop.counter c.loop.rest.now
    (values_at [] c.args.count c.args.bytes.now) c.loop-test.false c.loop.invariant.read
