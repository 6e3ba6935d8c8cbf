use Rattle.std.proofs.Common.{◌≡◌, ◌++◌, drop}
use Rattle.hsp_runs.specs.SiteText.{server_lines}
use Rattle.hsp_runs.proofs.site.push_servers.Given as goal

abbrev pub invariant-loop-place : goal.invariant-loop-place
invariant-loop-place l =
    l.out.items ++ server_lines l.place (drop l.place l.site.servers) ≡ l.fn.out.items ++ server_lines 0 l.site.servers
