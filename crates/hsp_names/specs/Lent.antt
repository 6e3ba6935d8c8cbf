-- What lent handles and their segments show.
use Rattle.std.specs.Prelude.{ℕ, List, [], Some, None}
use Rattle.std.specs.List.{slice_split}
use Rattle.hsp_names.specs.declared.handle.HandleRef.{HandleRef}
use Rattle.hsp_names.specs.declared.segments.Segments.{Segments}
use Rattle.hsp_names.specs.Handle.{is_dot}

-- the octets of a handle
abbrev pub octets_of : HandleRef → List ℕ
octets_of h = h.octets.now

-- the segments that are still to come
abbrev pub segments_left : Segments → List (List ℕ)
segments_left s = elim s.rest [ None ↦ [] | Some text ↦ slice_split is_dot text.now ]
