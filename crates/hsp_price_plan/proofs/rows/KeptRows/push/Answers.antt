use Rattle.std.proofs.Common.{◌≡◌, ◌∙◌, ◌++◌, ◌∷◌, [], ap, arith}
use Rattle.hsp_price_plan.specs.Entries.{IsPushed}
use Rattle.hsp_price_plan.specs.Regions.{with_region}
use Rattle.hsp_price_plan.proofs.Passing.{held_with}
use Rattle.hsp_price_plan.proofs.RowPlaces.{length-rows_by}
use Rattle.hsp_price_plan.proofs.RowPushing.{AreGrown, grown, in_place_push, rows_push}
use Rattle.hsp_price_plan.proofs.rows.KeptRows.push.Goals as goal
use Rattle.hsp_price_plan.proofs.rows.KeptRows.push.Goals.{In_ok-push-2}

-- what each list has in the end
numbers_are : (c : In_ok-push-2) → c.push.new.self.items ≡ c.self.inside.row_regions.items ++ c.args.region ∷ []
numbers_are c = c.in_ok-push.ensures.items ∙ ap (λ front. front ++ c.args.region ∷ []) c.in_ok-reserve.ensures.items

counts_are : (c : In_ok-push-2) → c.push-2.new.self.items ≡ c.self.inside.counts.items ++ c.args.count ∷ []
counts_are c = c.in_ok-push-2.ensures.items ∙ ap (λ front. front ++ c.args.count ∷ []) c.in_ok-reserve-2.ensures.items

pushed : (c : In_ok-push-2)
    → IsPushed c.self.inside.places.items c.self.inside.sites c.args.arcs.now c.push_entries.new.places.items
pushed c = rw c.in_ok-reserve-3.ensures.items at c.in_ok-push_entries.ensures.added

grows : (c : In_ok-push-2)
    → AreGrown c.self.inside.regions.items
    (with_region c.self.inside.regions.items c.args.region c.args.name.now c.args.arcs.now) c.args.region
    c.args.name.now c.args.arcs.now
grows c =
    grown c.self.inside.regions.items c.args.region c.args.name.now c.args.arcs.now
    (rw (← c.self.view_is) at c.requires.in_turn) (rw (← c.self.view_is) at c.requires.known)

pub invariant_of-self-2 : goal.invariant_of-self-2
invariant_of-self-2 c =
    let t = c.self.inside in
    let many =
    length-rows_by t.sites t.regions.items t.row_regions.items t.counts.items t.places.items
    c.self.invariant.many_counts in
    rw (c.in_ok-add_region.ensures.added, numbers_are c, counts_are c)
    (in_place_push t.sites t.regions.items
    (with_region t.regions.items c.args.region c.args.name.now c.args.arcs.now) t.row_regions.items t.counts.items
    t.places.items c.push_entries.new.places.items c.args.region c.args.count c.args.name.now c.args.arcs.now
    c.self.invariant (grows c) (pushed c) (omega (arith, many, (rw (← c.self.view_is) at c.requires.few)))
    (rw (← c.self.view_is) at c.requires.sites) c.requires.few_regions)

pub returns-clause-added : goal.returns-clause-added
returns-clause-added c =
    let t = c.self.inside in
    let more = with_region t.regions.items c.args.region c.args.name.now c.args.arcs.now in
    rw (c.in_ok-add_region.ensures.added, numbers_are c, counts_are c, ← c.self.view_is)
    (ap (held_with t.sites more)
    (rows_push t.sites t.regions.items more t.row_regions.items t.counts.items t.places.items
    c.push_entries.new.places.items c.args.region c.args.count c.args.name.now c.args.arcs.now c.self.invariant
    (grows c) (pushed c)))
