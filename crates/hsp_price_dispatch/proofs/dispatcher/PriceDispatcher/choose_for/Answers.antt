use Rattle.std.proofs.Common.{◌≡◌, ◌∙◌, ap, sym}
use Rattle.hsp_names.specs.Lent.{octets_of}
use Rattle.hsp_price_dispatch.specs.Choosing.{least_for}
use Rattle.hsp_price_dispatch.specs.SeenLeast.{lent_least}
use Rattle.hsp_price_dispatch.proofs.Indexing.{can_take_answer, seen_answers, seen_class, seen_within}
use Rattle.hsp_price_dispatch.proofs.SeenLeast.{found_own}
use Rattle.hsp_price_dispatch.proofs.dispatcher.PriceDispatcher.choose_for.Goals as goal

pub assigned-requires-clause-within : goal.assigned-requires-clause-within
assigned-requires-clause-within c =
    let own = c.self.inside.holding in
    let region = c.args.region.now in
    let octets = c.bytes.result.now in
    let least = lent_least c.in-Some.least in
    let seen : least ≡ least_for own.service own.plan region octets =
    found_own c.self.inside.seen region octets least own.service own.plan c.self.invariant.2 c.in-Some.ensures.found in
    seen_within own region octets least seen c.self.inside.arcs c.self.invariant.1

pub assigned-requires-clause-class : goal.assigned-requires-clause-class
assigned-requires-clause-class c =
    let own = c.self.inside.holding in
    let region = c.args.region.now in
    let octets = c.bytes.result.now in
    let least = lent_least c.in-Some.least in
    seen_class own region octets least
    (found_own c.self.inside.seen region octets least own.service own.plan c.self.invariant.2 c.in-Some.ensures.found)

pub returns-in-Some-assigned-clause-choice : goal.returns-in-Some-assigned-clause-choice
returns-in-Some-assigned-clause-choice c =
    let own = c.self.inside.holding in
    let region = c.args.region.now in
    let octets = octets_of c.args.handle in
    let least = lent_least c.in-Some.least in
    let seen : least ≡ least_for own.service own.plan region octets =
    found_own c.self.inside.seen region c.bytes.result.now least own.service own.plan c.self.invariant.2
    c.in-Some.ensures.found
    ∙ ap (least_for own.service own.plan region) c.bytes.ensures.octets in
    rw (← c.self.view_is)
    (seen_answers own region octets least seen c.in-Some-assigned.choice
    (sym c.in-Some-assigned.is ∙ c.assigned.ensures))

pub returns-in-Some-assigned-clause-can : goal.returns-in-Some-assigned-clause-can
returns-in-Some-assigned-clause-can c =
    let own = c.self.inside.holding in
    let region = c.args.region.now in
    let octets = c.bytes.result.now in
    let least = lent_least c.in-Some.least in
    let seen : least ≡ least_for own.service own.plan region octets =
    found_own c.self.inside.seen region octets least own.service own.plan c.self.invariant.2 c.in-Some.ensures.found in
    let is =
    seen_answers own region octets least seen c.in-Some-assigned.choice
    (sym c.in-Some-assigned.is ∙ c.assigned.ensures) in
    rw (← c.self.view_is) (rw is (can_take_answer own c.self.inside.arcs c.self.invariant.1 region octets))
