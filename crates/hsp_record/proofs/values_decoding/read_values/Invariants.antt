use Rattle.std.proofs.Common.{[], ◌-◌}
use Rattle.hsp_record.specs.Reading.{values_at}
use Rattle.hsp_record.proofs.ValueLoop.{HasIndices, IsReading}
use Rattle.hsp_record.proofs.values_decoding.read_values.Given as goal

abbrev pub invariant-loop : goal.invariant-loop
invariant-loop l =
    record {
      met : HasIndices l.met l.values.items;
      read : IsReading l.values.items (l.count - l.counter) l.rest (values_at [] l.count l.bytes);
    }
