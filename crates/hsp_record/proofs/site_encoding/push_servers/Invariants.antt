use Rattle.std.proofs.Common.{◌≡◌, ◌++◌, drop}
use Rattle.hsp_record.specs.Fields.{joined, all_fields, list_fields}
use Rattle.hsp_record.specs.Site.{server_fields}
use Rattle.hsp_record.proofs.site_encoding.push_servers.Given as goal

abbrev pub invariant-loop-server : goal.invariant-loop-server
invariant-loop-server l =
    l.out.items ++ joined (all_fields server_fields (drop l.server-index l.servers)) ≡ l.fn.out.items
    ++ joined (list_fields server_fields l.servers)
