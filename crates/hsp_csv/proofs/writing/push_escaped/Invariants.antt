use Rattle.std.proofs.Common.{◌≡◌, ◌++◌, drop}
use Rattle.csv.specs.Writing.{default_writer, escaped}
use Rattle.hsp_csv.proofs.writing.push_escaped.Given as goal

abbrev pub invariant-loop-octet : goal.invariant-loop-octet
invariant-loop-octet l =
    l.out.items ++ escaped default_writer (drop l.octet-index l.field) ≡ l.fn.out.items
    ++ escaped default_writer l.field
