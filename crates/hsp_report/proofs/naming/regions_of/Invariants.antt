use Rattle.std.proofs.Common.{◌≡◌, take}
use Rattle.hsp_instance.specs.Instance.{regions_of}
use Rattle.hsp_report.specs.Lent.{names_in}
use Rattle.hsp_report.proofs.naming.regions_of.Given as goal

abbrev pub invariant-loop-row : goal.invariant-loop-row
invariant-loop-row l = names_in l.names.items ≡ regions_of (take l.row l.instance.rows)
