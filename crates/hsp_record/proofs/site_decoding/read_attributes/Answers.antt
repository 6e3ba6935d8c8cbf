use Rattle.std.proofs.lemmas.Result.{err_from_is_err_and}
use Rattle.hsp_record.specs.Reading.{times_at, attribute_at}
use Rattle.hsp_record.proofs.Loop.{times_steps, goes_on, ends, is_done}
use Rattle.hsp_record.proofs.site_decoding.read_attributes.Goals as goal

pub returns-in_err-attribute : goal.returns-in_err-attribute
returns-in_err-attribute c =
    let p = err_from_is_err_and c.from_residual.result c.from_residual.ensures.1 in
    rw (p.1, p.2)
    (ends (times_steps attribute_at) c.in_err-attribute.field-0.0 c.loop.attributes.items c.args.count
    c.loop.counter c.loop.rest.now (times_at attribute_at c.args.count c.args.bytes.now) c.loop-test.true
    c.in_err-attribute.ensures c.loop.invariant)

pub loop-preserved : goal.loop-preserved
loop-preserved c =
    rw c.in_ok-push.ensures.items
    (goes_on (times_steps attribute_at) c.loop.attributes.items c.args.count c.loop.counter c.loop.rest.now
    c.in_ok-attribute.attribute c.in_ok-attribute.after.now (times_at attribute_at c.args.count c.args.bytes.now)
    c.loop-test.true c.in_ok-attribute.ensures c.loop.invariant)

pub returns : goal.returns
returns c =
    is_done (times_steps attribute_at) c.loop.attributes.items c.args.count c.loop.counter c.loop.rest.now
    (times_at attribute_at c.args.count c.args.bytes.now) c.loop-test.false c.loop.invariant
