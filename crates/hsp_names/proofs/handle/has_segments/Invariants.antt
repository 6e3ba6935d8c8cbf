use Rattle.std.proofs.Common.{◌≡◌, ◌==◌, not, length}
use Rattle.std.specs.List.{list_all}
use Rattle.hsp_names.specs.Handle.{has_segments}
use Rattle.hsp_names.specs.Lent.{segments_left}
use Rattle.hsp_names.proofs.handle.has_segments.Given as goal

abbrev pub invariant-loop-segment : goal.invariant-loop-segment
invariant-loop-segment l =
    list_all (λ s. not (length s == 0)) (segments_left l.segment-iterator) ≡ has_segments l.authority
