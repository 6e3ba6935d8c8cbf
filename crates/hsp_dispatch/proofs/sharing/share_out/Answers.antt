use Rattle.std.proofs.Common.{◌≡◌, ◌<◌, ◌∙◌, [], length, take, slice_index_or, Some, arith, refl}
use Rattle.std.specs.List.{slice_get}
use Rattle.std.proofs.lemmas.List.{get_or_read, take_all}
use Rattle.std.proofs.lemmas.Option.{slice_get-get_or}
use Rattle.hsp_cert.specs.declared.use_line.UseLine.{UseLine}
use Rattle.hsp_dispatch.specs.Shares.{cells_of}
use Rattle.hsp_dispatch.proofs.SharedOut.{AreSharesOf, all_bounded, are_held, cells_stay, shared_more, shared_none}
use Rattle.hsp_dispatch.proofs.SharedOut.{table_held, use_there}
use Rattle.hsp_dispatch.proofs.sharing.share_out.Goals as goal
use Rattle.hsp_dispatch.proofs.sharing.share_out.Goals.{After-index_mut, After-loop-one}

pub loop-one-init : goal.loop-one-init
loop-one-init c =
    rw (c.in_ok-shares.ensures, c.rows.ensures.count) (shared_none c.args.instance.now)

pub cell_for-cell-requires : goal.cell_for-cell-requires
cell_for-cell-requires c =
    let uses = c.args.uses.now in
    let k = c.loop-one.one-index in
    let at = slice_get-get_or uses k (record { row = 0; site = 0; count = 0 }) (omega arith) in
    use_there c.args.instance.now uses k _ c.rows.ensures.within c.requires at

pub index_mut-requires : goal.index_mut-requires
index_mut-requires c =
    let uses = c.args.uses.now in
    let k = c.loop-one.one-index in
    let inside =
    use_there c.args.instance.now uses k _ c.rows.ensures.within c.requires
    (slice_get-get_or uses k (record { row = 0; site = 0; count = 0 }) (omega arith)) in
    omega (arith, c.loop-one.invariant.one_a_row, c.loop-one.shares.ok.0)

-- the use of this turn
abbrev one_of : After-index_mut → UseLine
one_of c = slice_index_or c.args.uses.now c.loop-one.one-index (record { row = 0; site = 0; count = 0 })

one_at : (c : After-index_mut) → slice_get c.args.uses.now c.loop-one.one-index ≡ Some (one_of c)
one_at c = slice_get-get_or c.args.uses.now c.loop-one.one-index (record { row = 0; site = 0; count = 0 }) (omega arith)

row_inside : (c : After-index_mut) → (one_of c).row < length c.args.instance.now.rows
row_inside c =
    use_there c.args.instance.now c.args.uses.now c.loop-one.one-index (one_of c) c.rows.ensures.within c.requires
    (one_at c)

-- the cells of its row so far
own : (c : After-index_mut) → c.index_mut.result.now
    ≡ cells_of c.args.instance.now (one_of c).row (take c.loop-one.one-index c.args.uses.now)
own c =
    let one = one_of c in
    let inside = row_inside c in
    get_or_read c.loop-one.shares.items one.row c.index_mut.result.now
    (omega (arith, inside, c.loop-one.invariant.one_a_row)) c.index_mut.ensures.value []
    ∙ c.loop-one.invariant.each one.row

pub push-requires : goal.push-requires
push-requires c =
    let here = (goal.at.push-requires c).After-index_mut in
    rw (own here, c.cell_for-cell.ensures)
    (cells_stay c.args.instance.now c.args.uses.now c.loop-one.one-index _ c.requires (one_at here))

pub loop-one-preserved : goal.loop-one-preserved
loop-one-preserved c =
    let here = (goal.at.loop-one-preserved c).After-index_mut in
    shared_more c.args.instance.now c.args.uses.now c.loop-one.one-index _ c.loop-one.shares.items c.push.new.self
    c.requires (one_at here) c.loop-one.invariant (row_inside here)
    (c.in_ok-push.ensures ∙ rw (own here, c.cell_for-cell.ensures) refl)

-- at the end each row has the cells of all uses
shared : (c : After-loop-one)
    → AreSharesOf c.args.instance.now c.args.uses.now c.loop-one.shares.items
shared c = rw (take_all c.loop-one.one-index c.args.uses.now (omega arith)) at c.loop-one.invariant

pub returns-clause-held : goal.returns-clause-held
returns-clause-held c =
    are_held c.args.instance.now c.args.uses.now c.loop-one.shares.items c.requires
    (shared (goal.at.returns-clause-held c).After-loop-one) c.rows.ensures.within

pub returns-clause-table : goal.returns-clause-table
returns-clause-table c =
    table_held c.args.instance.now c.args.uses.now c.loop-one.shares.items c.requires
    (shared (goal.at.returns-clause-table c).After-loop-one)

pub returns-clause-bounded : goal.returns-clause-bounded
returns-clause-bounded c =
    all_bounded c.args.instance.now c.args.uses.now c.loop-one.shares.items c.requires
    (shared (goal.at.returns-clause-bounded c).After-loop-one)
