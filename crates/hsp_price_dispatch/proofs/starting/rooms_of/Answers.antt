use Rattle.std.proofs.Common.{◌<◌, ◌-◌, arith, length, slice_index}
use Rattle.std.proofs.lemmas.List.{get_or_read}
use Rattle.hsp_log.proofs.FrontShares.{share_le}
use Rattle.hsp_price_dispatch.proofs.starting.rooms_of.Goals as goal

pub overflow_add-share_of_front : goal.overflow_add-share_of_front
overflow_add-share_of_front c =
    let place = c.loop-place.place in
    let free = slice_index c.args.bounds.now place - slice_index c.args.loads.now place in
    let low = c.requires.low place c.loop-place-test.true in
    let within = c.requires.within place c.loop-place-test.true in
    let inside : place < length c.args.held.items =
    omega (arith, c.loop-place-test.true, c.requires.held_many) in
    let fits = c.type_inv.bounds place in
    omega (
      arith,
      share_le c.args.front.fronts c.args.front.number free c.requires.some,
      c.share_of_front.ensures,
      low,
      within,
      fits,
      get_or_read c.args.held.items place c.index.result.now inside c.index.ensures 0,
    )
