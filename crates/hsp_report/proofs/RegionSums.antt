-- The regions of rows, and what they cost.
use Rattle.std.proofs.Common.{◌≡◌, ◌∙◌, ℕ, ◌+◌, ◌*◌, ◌<◌, ◌≤◌, List, ◌++◌, length, map, take, sum_by, slice_index_or}
use Rattle.std.proofs.Common.{Some, if◌then◌else◌, Bor, ap, sym}
use Rattle.std.specs.Prelude.{slice_get}
use Rattle.std.specs.List.{flat_map}
use Rattle.std.specs.Str.{bytes_eq}
use Rattle.std.proofs.lemmas.List.{flat_map_more, map_more, take_all}
use Rattle.indexmap.specs.IndexSet.{insert_key}
use Rattle.hsp_tables.specs.Table.{first_seen}
use Rattle.hsp_tables.proofs.SeenNames.{first_seen-append}
use Rattle.hsp_instance.specs.Instance.{Instance, Row, regions_of}
use Rattle.hsp_instance.proofs.Lists.{map_take_next}
use Rattle.hsp_check.specs.declared.arc.NetworkArc.{NetworkArc}
use Rattle.hsp_check.specs.declared.sums.ArcFlow.{ArcFlow}
use Rattle.hsp_check.specs.Plan.{Plan}
use Rattle.hsp_check.specs.Planned.{ArePlanned}
use Rattle.hsp_check.proofs.FlowSums.{flow_sum}
use Rattle.hsp_report.specs.Numbered.{row_at}
use Rattle.hsp_report.specs.RegionReport.{is_of, region_cost}

-- the regions with one row more
pub seen_more : (rows : List Row) (i : ℕ) (row : Row) (names more : List (List ℕ)) → slice_get rows i ≡ Some row
    → names ≡ regions_of (take i rows) →
    more ≡ insert_key bytes_eq names row.region → more ≡ regions_of (take (i + 1) rows)
seen_more rows i row names more at so_far added =
    rw so_far at added ∙ sym (first_seen-append (map (λ (r : Row). r.region) (take i rows)) row.region)
    ∙ ap first_seen (sym (map_take_next (λ (r : Row). r.region) rows i row at))

-- the flows of the region's arcs are what the plan gives them
pub cost_is : (it : Instance) (x : Plan) (arc_flows : List ArcFlow) (region : List ℕ) (n sum : ℕ)
    → ArePlanned it x arc_flows → length arc_flows ≤ n →
    sum ≡ sum_by (λ l. if is_of region (row_at it l.arc.row) then l.arc.cost * l.flow else 0) (take n arc_flows)
    → sum ≡ region_cost it x region
cost_is it x arc_flows region n sum planned all so_far =
    so_far
    ∙ rw (take_all n arc_flows all)
    (flow_sum (λ a m. if is_of region (row_at it a.row) then a.cost * m else 0) x arc_flows
    planned.are_arc_flows.flows_are)
    ∙ ap
    (λ (arcs : List NetworkArc). sum_by (λ a. if is_of region (row_at it a.row) then a.cost * x a.row a.site else 0)
    arcs) planned.are_arc_flows.arcs_are

-- the line of one region more
pub region_more : (f : List ℕ → List ℕ) (old out new : List ℕ) (regions : List (Bor (List ℕ))) (i : ℕ)
    (d : Bor (List ℕ)) → i < length regions →
    out ≡ old ++ flat_map f (map (λ r. r.now) (take i regions)) → new ≡ out ++ f (slice_index_or regions i d).now
    → new ≡ old ++ flat_map f (map (λ r. r.now) (take (i + 1) regions))
region_more f old out new regions i d l so_far added =
    rw (map_more (λ (r : Bor (List ℕ)). r.now) regions i d l)
    (added ∙ rw so_far (flat_map_more f old (map (λ r. r.now) (take i regions)) (slice_index_or regions i d).now))
