use Rattle.std.proofs.Common.{◌≡◌, drop}
use Rattle.std.specs.List.{list_any}
use Rattle.std.specs.Str.{bytes_eq}
use Rattle.hsp_report.specs.Lent.{names_in}
use Rattle.hsp_report.proofs.naming.has_name.Given as goal

abbrev pub invariant-loop-seen : goal.invariant-loop-seen
invariant-loop-seen l =
    list_any (bytes_eq l.name) (names_in (drop l.seen-index l.names)) ≡ list_any (bytes_eq l.name) (names_in l.names)
