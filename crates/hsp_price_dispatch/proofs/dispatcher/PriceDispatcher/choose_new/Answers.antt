use Rattle.std.proofs.Common.{◌≡◌, ◌∙◌, List, ap, false, length, subst, sym}
use Rattle.std.specs.List.{AllByRecursion}
use Rattle.std.proofs.lemmas.Result.{IfOk-weaker}
use Rattle.hsp_names.specs.Lent.{octets_of}
use Rattle.hsp_instance.specs.RowArcs.{IsWithin, row_named}
use Rattle.hsp_instance.specs.declared.arc.Arc.{Arc}
use Rattle.hsp_prices.specs.Least.{arcs_of}
use Rattle.hsp_log.specs.Entries.{query}
use Rattle.hsp_price_dispatch.specs.Choosing.{Least, least_for}
use Rattle.hsp_price_dispatch.specs.Regions.{has_cost}
use Rattle.hsp_price_dispatch.specs.Taking.{CanTake}
use Rattle.hsp_price_dispatch.proofs.Indexing.{can_take_answer, found_answers, found_arcs, found_least, no_arcs_unknown}
use Rattle.hsp_price_dispatch.proofs.Indexing.{row_within, seen_class, seen_within, within_extras}
use Rattle.hsp_price_dispatch.proofs.KnownRegions.{more_have, no_arcs}
use Rattle.hsp_price_dispatch.proofs.SeenLeast.{put_has}
use Rattle.hsp_price_dispatch.proofs.dispatcher.PriceDispatcher.choose_new.Goals as goal

pub returns-then-not-serves-clause-choice : goal.returns-then-not-serves-clause-choice
returns-then-not-serves-clause-choice c =
    let octets = octets_of c.args.handle in
    let none : has_cost c.args.self.now.service c.args.region.now ≡ false =
    sym c.serves.ensures ∙ c.if-not-serves.true in
    sym (no_arcs_unknown c.args.self.now (query c.args.region.now c.args.handle)
    (no_arcs c.args.self.now.service (row_named c.args.region.now octets 1) none))

pub choose-requires-clause-within : goal.choose-requires-clause-within
choose-requires-clause-within c =
    let at = c.self.inside.holding.service in
    let is = c.self.invariant.1 in
    let octets = octets_of c.args.handle in
    let own : c.arcs-arcs.result.now ≡ arcs_of at (row_named c.args.region.now octets 1) =
    c.arcs-arcs.ensures
    ∙ found_arcs at c.self.inside.arcs is c.args.region.now octets c.find.new.self.arcs c.in_ok-find.ensures.arcs in
    subst (λ (arcs : List Arc). AllByRecursion (IsWithin (length at.servers)) arcs) (sym own)
    (row_within at c.self.inside.arcs is (row_named c.args.region.now octets 1))

pub find_least-requires-clause-within : goal.find_least-requires-clause-within
find_least-requires-clause-within c =
    let held = c.self.inside.holding in
    let at = held.service in
    let is = c.self.invariant.1 in
    let octets = octets_of c.args.handle in
    let own : c.arcs-arcs.result.now ≡ arcs_of at (row_named c.args.region.now octets 1) =
    c.arcs-arcs.ensures
    ∙ found_arcs at c.self.inside.arcs is c.args.region.now octets c.find.new.self.arcs c.in_ok-find.ensures.arcs in
    within_extras held c.self.inside.index c.self.invariant.0 c.arcs-arcs.result.now
    (subst (λ (arcs : List Arc). AllByRecursion (IsWithin (length at.servers)) arcs) (sym own)
    (row_within at c.self.inside.arcs is (row_named c.args.region.now octets 1)))

pub choose-requires-clause-least_within : goal.choose-requires-clause-least_within
choose-requires-clause-least_within c =
    let held = c.self.inside.holding in
    let is = c.self.invariant.1 in
    let region = c.args.region.now in
    let octets = octets_of c.args.handle in
    let own : c.arcs-arcs.result.now ≡ arcs_of held.service (row_named region octets 1) =
    c.arcs-arcs.ensures
    ∙ found_arcs held.service c.self.inside.arcs is region octets c.find.new.self.arcs c.in_ok-find.ensures.arcs in
    let least = c.find_least.new.scratch.least.items in
    let found =
    found_least held c.self.inside.index c.self.invariant.0 region octets c.arcs-arcs.result.now least
    c.in_ok-class.class own c.in_ok-class.ensures.least c.in_ok-class.ensures.class in
    seen_within held region octets (record { arcs = least; class = c.in_ok-class.class }) found c.self.inside.arcs is

pub choose-requires-clause-class : goal.choose-requires-clause-class
choose-requires-clause-class c =
    let held = c.self.inside.holding in
    let is = c.self.invariant.1 in
    let region = c.args.region.now in
    let octets = octets_of c.args.handle in
    let own : c.arcs-arcs.result.now ≡ arcs_of held.service (row_named region octets 1) =
    c.arcs-arcs.ensures
    ∙ found_arcs held.service c.self.inside.arcs is region octets c.find.new.self.arcs c.in_ok-find.ensures.arcs in
    let least = c.find_least.new.scratch.least.items in
    let found =
    found_least held c.self.inside.index c.self.invariant.0 region octets c.arcs-arcs.result.now least
    c.in_ok-class.class own c.in_ok-class.ensures.least c.in_ok-class.ensures.class in
    seen_class held region octets (record { arcs = least; class = c.in_ok-class.class }) found

pub invariant_of-self-2 : goal.invariant_of-self-2
invariant_of-self-2 c =
    let held = c.self.inside.holding in
    let at = held.service in
    let is = c.self.invariant.1 in
    let region = c.args.region.now in
    let octets = octets_of c.args.handle in
    let own : c.arcs-arcs.result.now ≡ arcs_of at (row_named region octets 1) =
    c.arcs-arcs.ensures
    ∙ found_arcs at c.self.inside.arcs is region octets c.find.new.self.arcs c.in_ok-find.ensures.arcs in
    let least = c.find_least.new.scratch.least.items in
    let found =
    found_least held c.self.inside.index c.self.invariant.0 region octets c.arcs-arcs.result.now least
    c.in_ok-class.class own c.in_ok-class.ensures.least c.in_ok-class.ensures.class in
    let kept : Least = record { arcs = c.deref.result.now; class = c.in_ok-class.class } in
    let same : kept ≡ least_for at held.plan region c.bytes.result.now =
    ap (λ (list : List Arc). record { arcs = list; class = c.in_ok-class.class }) c.deref.ensures.value ∙ found
    ∙ ap (least_for at held.plan region) (sym c.bytes.ensures.octets) in (
      c.self.invariant.0,
      record {
        service = is.service;
        costs = is.costs;
        costs_are = c.in_ok-find.ensures.costs ∙ is.costs_are;
        sites_are = c.in_ok-find.ensures.sites ∙ is.sites_are;
        regions =
            rw c.in_ok-find.ensures.regions
            (more_have at region c.self.inside.arcs.regions is.regions
            (rw (← c.self.view_is) at (sym c.serves.ensures ∙ c.if-not-serves.false)));
      },
      rw c.in_ok-remember.ensures.put
          (put_has c.self.inside.seen region c.bytes.result.now kept at held.plan c.self.invariant.2 same),
    )

pub returns-clause-choice : goal.returns-clause-choice
returns-clause-choice c =
    let held = c.self.inside.holding in
    let is = c.self.invariant.1 in
    let region = c.args.region.now in
    let octets = octets_of c.args.handle in
    let own : c.arcs-arcs.result.now ≡ arcs_of held.service (row_named region octets 1) =
    c.arcs-arcs.ensures
    ∙ found_arcs held.service c.self.inside.arcs is region octets c.find.new.self.arcs c.in_ok-find.ensures.arcs in
    rw (← c.self.view_is)
    (IfOk-weaker c.choose.result _ _
    (found_answers held c.self.inside.index c.self.invariant.0 region octets c.arcs-arcs.result.now
    c.find_least.new.scratch.least.items c.in_ok-class.class own c.in_ok-class.ensures.least
    c.in_ok-class.ensures.class)
    c.choose.ensures)

pub returns-clause-can : goal.returns-clause-can
returns-clause-can c =
    let held = c.self.inside.holding in
    let is = c.self.invariant.1 in
    let region = c.args.region.now in
    let octets = octets_of c.args.handle in
    let own : c.arcs-arcs.result.now ≡ arcs_of held.service (row_named region octets 1) =
    c.arcs-arcs.ensures
    ∙ found_arcs held.service c.self.inside.arcs is region octets c.find.new.self.arcs c.in_ok-find.ensures.arcs in
    rw (← c.self.view_is)
    (IfOk-weaker c.choose.result _ (CanTake held)
    (λ by chosen.
    let answers =
    found_answers held c.self.inside.index c.self.invariant.0 region octets c.arcs-arcs.result.now
    c.find_least.new.scratch.least.items c.in_ok-class.class own c.in_ok-class.ensures.least c.in_ok-class.ensures.class
    by chosen in
    rw answers (can_take_answer held c.self.inside.arcs is region octets))
    c.choose.ensures)
