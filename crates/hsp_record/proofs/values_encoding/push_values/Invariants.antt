use Rattle.std.proofs.Common.{◌≡◌, ◌++◌, drop}
use Rattle.hsp_record.specs.Fields.{joined, all_fields, list_fields}
use Rattle.hsp_record.specs.Values.{value_fields}
use Rattle.hsp_record.proofs.values_encoding.push_values.Given as goal

abbrev pub invariant-loop-value : goal.invariant-loop-value
invariant-loop-value l =
    l.out.items ++ joined (all_fields value_fields (drop l.value-index l.values)) ≡ l.fn.out.items
    ++ joined (list_fields value_fields l.values)
