use Rattle.std.proofs.Common.{◌≡◌, ◌∙◌, ◌<◌, List, ap, length, length-set, slice_set}
use Rattle.std.proofs.lemmas.List.{with_items_is}
use Rattle.hsp_price_dispatch.specs.Holding.{cell_at, one_given}
use Rattle.hsp_price_dispatch.specs.declared.cells.Cell.{Cell}
use Rattle.hsp_price_dispatch.proofs.Held.{amount_taken}
use Rattle.hsp_price_dispatch.proofs.holding.Holding.take_amount.Goals as goal

pub invariant_of-self : goal.invariant_of-self
invariant_of-self c =
    let n = c.args.number in
    let inside : n < length c.self.inside.cells.items = rw (← c.self.view_is) at c.requires.inside in
    let some = rw (← c.self.view_is) at c.requires.left in
    let cells : c.give_one.new.cells
    ≡ slice_set c.self.inside.cells.items n (one_given (cell_at c.self.inside.cells.items n)) =
    rw c.deref_mut.ensures.value at c.give_one.ensures in
    let many : length c.give_one.new.cells ≡ c.self.inside.cells.len =
    ap (λ (list : List Cell). length list) c.give_one.ensures ∙ length-set c.deref_mut.result.now n _
    ∙ c.deref_mut.ensures.len in
    rw (with_items_is c.self.inside.cells c.give_one.new.cells many)
    (amount_taken _ _ _ _ c.self.invariant n inside some c.server_of-server.result c.host-host.result
    c.give_one.new.cells c.release.new.self.left.items c.release_on.new.self.left.items c.release.new.self.held.items
    c.release_on.new.self.held.items (rw (← c.self.view_is) at c.server_of-server.ensures.server)
    (rw (← c.self.view_is) at c.host-host.ensures.host) cells c.release.ensures.left c.release_on.ensures.left
    c.release.ensures.held c.release_on.ensures.held)
