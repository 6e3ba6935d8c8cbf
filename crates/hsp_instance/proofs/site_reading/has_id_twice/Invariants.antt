use Rattle.std.proofs.Common.{◌≡◌, length}
use Rattle.hsp_instance.specs.Building.{has_id_twice}
use Rattle.hsp_instance.proofs.site_reading.has_id_twice.Given as goal

abbrev pub invariant-rest : goal.invariant-rest
invariant-rest l = has_id_twice l.rest ≡ has_id_twice l.fn.servers

abbrev pub decreases-rest : goal.decreases-rest
decreases-rest l = length l.rest
