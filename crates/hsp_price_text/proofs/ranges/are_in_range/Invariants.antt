use Rattle.std.proofs.Common.{◌≡◌, drop}
use Rattle.std.specs.List.{list_all}
use Rattle.hsp_price_text.specs.Claim.{is_server}
use Rattle.hsp_price_text.proofs.ranges.are_in_range.Given as goal

abbrev pub invariant-loop-server : goal.invariant-loop-server
invariant-loop-server l = list_all is_server (drop l.server-index l.servers) ≡ list_all is_server l.servers
