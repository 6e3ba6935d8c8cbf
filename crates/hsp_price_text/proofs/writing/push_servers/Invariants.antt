use Rattle.std.proofs.Common.{◌≡◌, ◌++◌, map, drop}
use Rattle.hsp_cert.specs.Text.{unlines}
use Rattle.hsp_price_text.specs.Text.{server_line}
use Rattle.hsp_price_text.proofs.writing.push_servers.Given as goal

abbrev pub invariant-loop-server : goal.invariant-loop-server
invariant-loop-server l =
    l.out.items ++ unlines (map server_line (drop l.server-index l.servers))
    ≡ l.fn.out.items ++ unlines (map server_line l.servers)
