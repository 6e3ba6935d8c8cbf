use Rattle.std.proofs.Common.{◌∙◌, ap, ap₂, filter, length, sym}
use Rattle.std.proofs.lemmas.Result.{IfOk-weaker}
use Rattle.hsp_prices.specs.Least.{least_arcs}
use Rattle.hsp_price_check.specs.Extras.{pay_by}
use Rattle.hsp_price_dispatch.specs.Choosing.{at_first, diverted}
use Rattle.hsp_price_dispatch.specs.Holding.{has_room, is_free}
use Rattle.hsp_price_dispatch.specs.declared.answer.Choice.TheVariants.{Diverted}
use Rattle.hsp_price_dispatch.proofs.Indexing.{kept_within, least_is, or_first, or_second, within_extras}
use Rattle.hsp_price_dispatch.proofs.choosing.elsewhere.Goals as goal

pub divert-requires-clause-within : goal.divert-requires-clause-within
divert-requires-clause-within c =
    let own = c.args.holding.now in
    rw (c.deref-2.ensures.value, c.deref.ensures.value, c.in_ok-fill_passing.ensures)
    (within_extras own c.args.index.now c.requires.index (filter (is_free own) c.args.arcs.now)
    (kept_within (length own.service.servers) (is_free own) c.args.arcs.now c.requires.within))

pub divert-requires-2-clause-within : goal.divert-requires-2-clause-within
divert-requires-2-clause-within c =
    let own = c.args.holding.now in
    rw (c.deref-4.ensures.value, c.deref-3.ensures.value, c.in_ok-fill_passing-2.ensures)
    (within_extras own c.args.index.now c.requires.index (filter (has_room own) c.args.arcs.now)
    (kept_within (length own.service.servers) (has_room own) c.args.arcs.now c.requires.within))

pub returns-in-Some : goal.returns-in-Some
returns-in-Some c =
    let own = c.args.holding.now in
    let list = filter (is_free own) c.args.arcs.now in
    or_first c.in-Some.choice (diverted own (is_free own) c.args.arcs.now) (diverted own (has_room own) c.args.arcs.now)
    (sym c.in-Some.is ∙ c.in_ok-free.ensures
    ∙ ap₂ (λ extras arcs. at_first Diverted (least_arcs (pay_by extras) arcs)) c.deref-2.ensures.value
    (c.deref.ensures.value ∙ c.in_ok-fill_passing.ensures)
    ∙ ap (at_first Diverted) (least_is own c.args.index.now c.requires.index list))

pub returns : goal.returns
returns c =
    let own = c.args.holding.now in
    let list = filter (is_free own) c.args.arcs.now in
    let roomy = filter (has_room own) c.args.arcs.now in
    IfOk-weaker c.divert-2.result _ _
    (λ by is.
    or_second (diverted own (is_free own) c.args.arcs.now) (diverted own (has_room own) c.args.arcs.now) by
    (sym c.in_default.is ∙ c.in_ok-free.ensures
    ∙ ap₂ (λ extras arcs. at_first Diverted (least_arcs (pay_by extras) arcs)) c.deref-2.ensures.value
    (c.deref.ensures.value ∙ c.in_ok-fill_passing.ensures)
    ∙ ap (at_first Diverted) (least_is own c.args.index.now c.requires.index list))
    (is
    ∙ ap₂ (λ extras arcs. at_first Diverted (least_arcs (pay_by extras) arcs)) c.deref-4.ensures.value
    (c.deref-3.ensures.value ∙ c.in_ok-fill_passing-2.ensures)
    ∙ ap (at_first Diverted) (least_is own c.args.index.now c.requires.index roomy)))
    c.divert-2.ensures
