use Rattle.std.proofs.Common.{◌-◌}
use Rattle.hsp_record.specs.Reading.{times_at, run_at}
use Rattle.hsp_record.proofs.Loop.{IsPassing}
use Rattle.hsp_record.proofs.request.skip_types.Given as goal

abbrev pub invariant-loop : goal.invariant-loop
invariant-loop l = IsPassing run_at (l.count - l.counter) l.rest (times_at run_at l.count l.bytes)
