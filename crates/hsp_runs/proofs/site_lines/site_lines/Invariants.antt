use Rattle.std.proofs.Common.{◌≡◌, ◌++◌, drop}
use Rattle.hsp_names.specs.Lent.{octets_of}
use Rattle.hsp_runs.specs.Locate.{site_lines}
use Rattle.hsp_runs.proofs.site_lines.site_lines.Given as goal

abbrev pub invariant-loop-number : goal.invariant-loop-number
invariant-loop-number l =
    l.text.items ++ site_lines (octets_of l.handle) (drop l.number l.sites) ≡ site_lines (octets_of l.handle) l.sites
