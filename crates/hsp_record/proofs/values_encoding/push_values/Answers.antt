use Rattle.std.proofs.Common.{◌++◌}
use Rattle.hsp_record.specs.Fields.{joined, list_fields}
use Rattle.hsp_record.specs.Values.{value_fields}
use Rattle.hsp_record.proofs.Appending.{append_next}
use Rattle.hsp_record.proofs.values_encoding.push_values.Goals as goal

pub loop-value-preserved : goal.loop-value-preserved
loop-value-preserved c =
    rw c.in_ok-push_value.ensures
    (append_next value_fields c.args.values.now c.loop-value.value-index c.value-item.result c.loop-value.out.items
    (c.args.out.now.items ++ joined (list_fields value_fields c.args.values.now)) c.loop-value-test.true
    c.value-item.is c.loop-value.invariant)
