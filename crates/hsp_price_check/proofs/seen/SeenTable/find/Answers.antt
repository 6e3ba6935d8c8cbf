use Rattle.std.proofs.Common.{◌∙◌, ◌<◌, Some, ap, length, sym, arith}
use Rattle.std.proofs.lemmas.Option.{slice_get-get_or, slice_get_within}
use Rattle.hsp_price_check.proofs.SeenMaps.{seen_at, seen_nowhere}
use Rattle.hsp_price_check.proofs.seen.SeenTable.find.Goals as goal

pub returns-in_err-place : goal.returns-in_err-place
returns-in_err-place c =
    rw (c.from_residual.ensures, ← c.self.view_is)
    (sym
    (seen_nowhere c.args.region.now c.args.handle.now c.self.inside.pairs c.self.inside.numbers.items
    c.in_err-place.ensures.none))

pub index-requires : goal.index-requires
index-requires c =
    omega (
      arith,
      slice_get_within c.self.inside.pairs c.in_ok-place.place _ c.in_ok-place.ensures.found,
      c.self.invariant.0,
      c.self.inside.numbers.ok.0,
    )

pub returns : goal.returns
returns c =
    let numbers = c.self.inside.numbers.items in
    let place = c.in_ok-place.place in
    let within : place < length numbers =
    omega (arith, slice_get_within c.self.inside.pairs place _ c.in_ok-place.ensures.found, c.self.invariant.0) in
    rw (← c.self.view_is)
    (ap Some c.index.ensures ∙ sym (slice_get-get_or numbers place c.index.result.now within)
    ∙ sym
    (seen_at c.args.region.now c.args.handle.now c.self.inside.pairs numbers c.self.invariant.0 c.self.invariant.1
    place c.in_ok-place.ensures.found))
