use Rattle.std.proofs.Common.{◌-◌}
use Rattle.std.specs.Int.{w32}
use Rattle.hsp_record.specs.Reading.{times_at, number_at}
use Rattle.hsp_record.proofs.Loop.{IsPassing}
use Rattle.hsp_record.proofs.request.skip_indices.Given as goal

abbrev pub invariant-loop : goal.invariant-loop
invariant-loop l = IsPassing (number_at w32) (l.count - l.counter) l.rest (times_at (number_at w32) l.count l.bytes)
