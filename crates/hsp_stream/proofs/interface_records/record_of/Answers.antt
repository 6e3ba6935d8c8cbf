use Rattle.std.proofs.Common.{◌≡◌, option_map, rules}
use Rattle.hsp_record.specs.declared.fault.RecordFault.TheVariants.{OutOfMemory}
use Rattle.hsp_tables.specs.SettingsRows.{source_shown}
use Rattle.hsp_stream.proofs.InterfaceTurns.{only_memory, same_octets}
use Rattle.hsp_stream.proofs.interface_records.record_of.Goals as goal

pub prove-unreachable-requires : goal.prove-unreachable-requires
prove-unreachable-requires c =
    let (site, spelled) = c.requires in
    let means = same_octets (option_map (λ v. v.now) c.args.values) c.args.number (source_shown c.args.source)
    c.in-Ok.octets.now site spelled c.in-Ok.ensures in
    let is : c.in-Err.fault ≡ OutOfMemory =
    only_memory c.in-Ok.octets.now site c.in-Err.fault means (rw c.in-Err.is at c.decode_site.ensures.only) in
    search rules
