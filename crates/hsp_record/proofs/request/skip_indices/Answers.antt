use Rattle.std.specs.Int.{w32}
use Rattle.std.proofs.lemmas.Result.{err_from_is_err_and}
use Rattle.hsp_record.specs.Reading.{times_at, number_at}
use Rattle.hsp_record.proofs.Loop.{passing_on, passing_stops, passed_all}
use Rattle.hsp_record.proofs.request.skip_indices.Goals as goal

pub returns-in_err-after : goal.returns-in_err-after
returns-in_err-after c =
    let p = err_from_is_err_and c.from_residual.result c.from_residual.ensures.1 in
    rw (p.1, p.2)
    (passing_stops (number_at w32) c.in_err-after.field-0.0 c.args.count c.loop.counter c.loop.rest.now
    (times_at (number_at w32) c.args.count c.args.bytes.now) c.loop-test.true c.in_err-after.ensures
    c.loop.invariant)

pub loop-preserved : goal.loop-preserved
loop-preserved c =
    passing_on (number_at w32) c.args.count c.loop.counter c.loop.rest.now _ c.in_ok-after.after.now
    (times_at (number_at w32) c.args.count c.args.bytes.now) c.loop-test.true c.in_ok-after.ensures c.loop.invariant

pub returns : goal.returns
returns c =
    passed_all (number_at w32) c.args.count c.loop.counter c.loop.rest.now
    (times_at (number_at w32) c.args.count c.args.bytes.now) c.loop-test.false c.loop.invariant
