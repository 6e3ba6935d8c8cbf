use Rattle.std.proofs.Common.{◌≡◌, drop}
use Rattle.hsp_instance.specs.Building.{has_id}
use Rattle.hsp_instance.proofs.site_reading.has_id.Given as goal

abbrev pub invariant-loop-server : goal.invariant-loop-server
invariant-loop-server l = has_id l.id (drop l.server-index l.servers) ≡ has_id l.id l.servers
