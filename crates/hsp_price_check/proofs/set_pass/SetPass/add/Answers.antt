use Rattle.std.proofs.Common.{refl}
use Rattle.hsp_price_check.proofs.SetRows.{set_more}
use Rattle.hsp_price_check.proofs.set_pass.SetPass.add.Goals as goal

pub returns-then-arcs_stay_within : goal.returns-then-arcs_stay_within
returns-then-arcs_stay_within c at set rows row is of =
    set_more at set rows row c.args.self.now c.args.arcs.now c.args.count c.saturating_add-self.result
    c.arcs_stay_within.result is of c.requires (rw (← c.deref.ensures.value) c.arcs_stay_within.ensures)
    (rw (c.if-arcs_stay_within.true, ← c.from.ensures) c.saturating_add-self.ensures)

pub returns-else-arcs_stay_within : goal.returns-else-arcs_stay_within
returns-else-arcs_stay_within c at set rows row is of =
    set_more at set rows row c.args.self.now c.args.arcs.now c.args.count c.args.self.now.demand
    c.arcs_stay_within.result is of c.requires (rw (← c.deref.ensures.value) c.arcs_stay_within.ensures)
    (rw c.if-arcs_stay_within.false refl)
