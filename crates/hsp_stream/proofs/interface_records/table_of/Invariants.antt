use Rattle.std.proofs.Common.{drop, option_map}
use Rattle.hsp_stream.specs.Interfaces.{HaveRecords}
use Rattle.hsp_stream.proofs.InterfaceTurns.{GoesOn}
use Rattle.hsp_stream.proofs.interface_records.table_of.Given as goal

abbrev pub invariant-loop-number : goal.invariant-loop-number
invariant-loop-number l =
    GoesOn (option_map (λ v. v.now) l.values) l.settings.sites l.number l.text.items
    × HaveRecords (option_map (λ v. v.now) l.values) l.number (drop l.number l.settings.sites)
