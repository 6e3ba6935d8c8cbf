use Rattle.std.proofs.Common.{◌≡◌, ◌-◌}
use Rattle.hsp_record.specs.Reading.{times_at, interface_at}
use Rattle.hsp_record.proofs.Loop.{with_front}
use Rattle.hsp_record.proofs.site_decoding.read_interfaces.Given as goal

abbrev pub invariant-loop : goal.invariant-loop
invariant-loop l =
    with_front l.interfaces.items (times_at interface_at (l.count - l.counter) l.rest)
    ≡ times_at interface_at l.count l.bytes
