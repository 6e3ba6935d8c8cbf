use Rattle.std.proofs.Common.{◌≡◌, drop}
use Rattle.std.specs.List.{find}
use Rattle.hsp_instance.specs.Building.{is_named}
use Rattle.hsp_instance.proofs.checks.site_named.Given as goal

abbrev pub invariant-loop-site : goal.invariant-loop-site
invariant-loop-site l = find (is_named l.name) (drop l.site-index l.sites) ≡ find (is_named l.name) l.sites
