use Rattle.std.proofs.Common.{◌≡◌, ◌∙◌, Some, sym, refl}
use Rattle.std.specs.Prelude.{slice_get}
use Rattle.hsp_tables.proofs.Lookups.{pairs_more}
use Rattle.hsp_tables.proofs.demand.numbers_of.Goals as goal

pub loop-number-preserved : goal.loop-number-preserved
loop-number-preserved c =
    let entries = c.args.rows.now.entries in
    let there : slice_get entries c.loop-number.number ≡ Some (c.unwrap.result.0.now, c.unwrap.result.1.now) =
    rw (← c.get_index.ensures.entry, c.unwrap.ensures) refl in
    c.in_ok-push.ensures.added
    ∙ rw (c.loop-number.invariant, c.first.ensures, c.second.ensures)
    (sym (pairs_more entries c.loop-number.number _ there))
