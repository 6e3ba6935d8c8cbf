use Rattle.std.proofs.Common.{◌≡◌, ◌-◌}
use Rattle.hsp_record.specs.Reading.{times_at, server_at}
use Rattle.hsp_record.proofs.Loop.{with_front}
use Rattle.hsp_record.proofs.site_decoding.read_servers.Given as goal

abbrev pub invariant-loop : goal.invariant-loop
invariant-loop l =
    with_front l.servers.items (times_at server_at (l.count - l.counter) l.rest) ≡ times_at server_at l.count l.bytes
