use Rattle.std.proofs.Common.{◌∙◌, ℕ, List, Some, ap, sym}
use Rattle.hsp_instance.specs.RegionCosts.{costs_at}
use Rattle.hsp_instance.specs.RowArcs.{names_of, with_region}
use Rattle.hsp_instance.proofs.KnownRegions.{costs_added, costs_known, costs_placed}
use Rattle.hsp_instance.proofs.RegionNames.{added_place, known_before, known_place, names_added}
use Rattle.hsp_instance.proofs.region_costs.place_of.Goals as goal

pub returns-in-Some-clause-place : goal.returns-in-Some-clause-place
returns-in-Some-clause-place c =
    costs_known c.args.costs.now c.args.sites.now c.args.region.now c.args.known.now.entries c.in-Some.place c.requires
    c.in-Some.ensures.within c.in-Some.ensures.value

pub returns-in-Some-clause-names : goal.returns-in-Some-clause-names
returns-in-Some-clause-names c =
    known_before c.args.region.now c.args.known.now.entries
    (sym c.in-Some.ensures.found)

pub returns-in-Some-clause-name : goal.returns-in-Some-clause-name
returns-in-Some-clause-name c =
    known_place c.args.region.now c.args.known.now.entries c.in-Some.place c.in-Some.ensures.within
    (sym c.in-Some.ensures.index)

pub returns-clause-names : goal.returns-clause-names
returns-clause-names c =
    ap names_of c.in_ok-place.ensures.entries
    ∙ names_added c.in_ok-name.name c.in_ok-found.found c.args.known.now.entries
    ∙ ap (with_region (names_of c.args.known.now.entries)) c.in_ok-name.ensures.items

pub returns-clause-name : goal.returns-clause-name
returns-clause-name c =
    rw (c.in_ok-place.ensures.entries, c.in_ok-place.ensures.index)
    (added_place c.in_ok-name.name c.in_ok-found.found c.args.known.now.entries
    ∙ ap Some c.in_ok-name.ensures.items)

pub returns-clause-known : goal.returns-clause-known
returns-clause-known c =
    let has =
    c.in_ok-found.ensures
    ∙ ap (λ (name : List ℕ). costs_at c.args.costs.now name c.args.sites.now) (sym c.in_ok-name.ensures.items) in
    rw (c.in_ok-place.ensures.entries)
    (costs_added c.args.costs.now c.args.sites.now c.in_ok-name.name c.in_ok-found.found c.args.known.now.entries
    has c.requires)

pub returns-clause-place : goal.returns-clause-place
returns-clause-place c =
    rw (c.in_ok-place.ensures.entries, c.in_ok-place.ensures.index)
    (costs_placed c.in_ok-name.name c.in_ok-found.found c.args.known.now.entries ∙ ap Some c.in_ok-found.ensures)
