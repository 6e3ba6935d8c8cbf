use Rattle.std.proofs.Common.{◌≡◌, ◌==◌, drop}
use Rattle.std.specs.List.{find}
use Rattle.hsp_record.proofs.values.ValueList.find.Given as goal

abbrev pub invariant-loop-value : goal.invariant-loop-value
invariant-loop-value l =
    find (λ v. v.index == l.index) (drop l.value-index l.value-items) ≡ find (λ v. v.index == l.index) l.self
