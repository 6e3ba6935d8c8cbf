use Rattle.std.proofs.Common.{◌-◌}
use Rattle.hsp_record.specs.Reading.{times_at, reference_at}
use Rattle.hsp_record.proofs.Loop.{IsPassing}
use Rattle.hsp_record.proofs.values_decoding.skip_references.Given as goal

abbrev pub invariant-loop : goal.invariant-loop
invariant-loop l = IsPassing reference_at (l.count - l.counter) l.rest (times_at reference_at l.count l.bytes)
