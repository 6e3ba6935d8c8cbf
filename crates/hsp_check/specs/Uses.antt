-- The plan that the uses of a certificate spell.
use Rattle.std.specs.Prelude.{◌==◌, ◌&&◌, List, sum_by, if◌then◌else◌}
use Rattle.hsp_cert.specs.declared.use_line.UseLine.{UseLine}
use Rattle.hsp_check.specs.Plan.{Plan}

-- the table of the uses, 0 elsewhere
abbrev pub table : List UseLine → Plan
table uses i s = sum_by (λ u. if u.row == i && u.site == s then u.count else 0) uses
