use Rattle.std.proofs.Common.{◌≡◌, ◌∙◌, arith, length, take, Some, refl}
use Rattle.std.specs.List.{slice_get}
use Rattle.std.proofs.lemmas.Option.{slice_get_read}
use Rattle.std.proofs.lemmas.List.{take_all}
use Rattle.hsp_dispatch.proofs.FrontsHeld.{few_held}
use Rattle.hsp_dispatch.proofs.fronts.rows_by.Goals as goal

pub new-requires-clause-few : goal.new-requires-clause-few
new-requires-clause-few c =
    let shares = c.in_ok-shares.shares.items in
    let at : slice_get shares c.loop-share.share-index ≡ Some c.share-item.result =
    slice_get_read shares (length shares) c.loop-share.share-index c.share-item.result refl (omega arith)
    (rw c.deref-share-items.ensures.value at c.share-item.is) in
    rw c.in_ok-cells.ensures
    (few_held c.args.instance.now shares c.loop-share.share-index c.share-item.result c.in_ok-shares.ensures.held
    at)

pub returns : goal.returns
returns c =
    let shares = c.in_ok-shares.shares.items in
    let whole : take c.loop-share.share-index shares ≡ shares =
    take_all c.loop-share.share-index shares (omega arith) in
    let items : c.loop-share.rows.items ≡ shares =
    rw (c.deref-share-items.ensures.value, whole) at c.loop-share.invariant in
    rw items (record { held = c.in_ok-shares.ensures.held; table = c.in_ok-shares.ensures.table })
