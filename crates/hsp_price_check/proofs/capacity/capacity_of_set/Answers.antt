use Rattle.std.proofs.Common.{rules}
use Rattle.hsp_price_check.proofs.SetCapacity.{set_capacity}
use Rattle.hsp_price_check.proofs.capacity.capacity_of_set.Goals as goal

pub returns : goal.returns
returns c = λ servers flagged.
    let rooms = rw c.deref.ensures.value at c.in_ok-rooms.ensures.rooms in
    let hosted = rw (c.deref-2.ensures.value, c.deref-3.ensures.value) at c.in_ok-hosted.ensures.sums in
    rw (
      c.free_room.ensures.sum,
      c.hosted_room.ensures.sum,
      c.deref-4.ensures.value,
      c.deref-5.ensures.value,
      c.deref-6.ensures.value,
      c.deref-7.ensures.value,
    )
    (set_capacity c.args.numbers.now servers c.args.flags.now c.in_ok-rooms.rooms.items c.in_ok-hosted.hosted.items
    flagged rooms (search rules) hosted)
