-- Columns of arcs with those of a row more.
use Rattle.std.proofs.Common.{◌≡◌, ℕ, ◌+◌, ◌∙◌, List, ◌++◌, map, take, ap, sym, refl}
use Rattle.std.specs.Prelude.{Some, slice_get}
use Rattle.std.proofs.lemmas.List.{map-append}
use Rattle.hsp_instance.specs.declared.arc.Arc.{Arc}
use Rattle.hsp_check.specs.declared.arc.NetworkArc.{NetworkArc}
use Rattle.hsp_check.specs.Instance.{arc_of, arcs_from}
use Rattle.hsp_flow.specs.declared.arcs.ArcColumns.{ArcColumns}
use Rattle.hsp_flow.specs.Columns.{AreColumns, Extends}
use Rattle.hsp_flow.specs.Planning.{row_of, server_of, cost_of}
use Rattle.hsp_flow.proofs.Ordering.{arcs_read}

module _ (lists : List (List Arc)) (k : ℕ) (arcs : List Arc) (read : slice_get lists k ≡ Some arcs) where
  -- the arcs of the first rows, and of one more
  pub grown : arcs_from 0 (take k lists) ++ map (arc_of k) arcs ≡ arcs_from 0 (take (k + 1) lists)
  grown = arcs_read lists k arcs (arcs_from 0 (take k lists)) read refl

  -- a column grows by the arcs of a row
  column_more : (part : NetworkArc → ℕ) (old new : List ℕ) → old ≡ map part (arcs_from 0 (take k lists))
      → new ≡ old ++ map part (map (arc_of k) arcs) → new ≡ map part (arcs_from 0 (take (k + 1) lists))
  column_more part old new is more =
      more ∙ ap (λ xs. xs ++ map part (map (arc_of k) arcs)) is
      ∙ sym (map-append part (arcs_from 0 (take k lists)) (map (arc_of k) arcs)) ∙ ap (map part) grown

  -- all columns grow by the arcs of a row
  pub columns_more : (old new : ArcColumns) → AreColumns (arcs_from 0 (take k lists)) old
      → Extends old (map (arc_of k) arcs) new → AreColumns (arcs_from 0 (take (k + 1) lists)) new
  columns_more old new is more = record {
    sources = column_more row_of old.sources.items new.sources.items is.sources more.sources;
    servers = column_more server_of old.servers.items new.servers.items is.servers more.servers;
    costs = column_more cost_of old.costs.items new.costs.items is.costs more.costs;
  }
