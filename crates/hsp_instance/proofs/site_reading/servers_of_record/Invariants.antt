use Rattle.std.proofs.Common.{◌≡◌, length, map, take}
use Rattle.hsp_instance.specs.Building.{server_of_record}
use Rattle.hsp_instance.proofs.site_reading.servers_of_record.Given as goal

abbrev pub invariant-loop-place : goal.invariant-loop-place
invariant-loop-place l = record {
  items : l.servers.items ≡ map server_of_record (take l.place l.decoded.servers);
  count : length l.servers.items ≡ l.place;
}
