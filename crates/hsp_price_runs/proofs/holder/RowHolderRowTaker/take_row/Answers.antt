use Rattle.std.proofs.Common.{◌≡◌, ◌∙◌, ◌<◌, ◌+◌, ◌^◌, List, ap, arith, length, subst, sym}
use Rattle.hsp_names.specs.Lent.{octets_of}
use Rattle.hsp_instance.specs.declared.arc.Arc.{Arc}
use Rattle.hsp_price_plan.specs.Held.{CanPush, HeldRows, with_row}
use Rattle.hsp_price_check.specs.Passed.{capped}
use Rattle.hsp_price_runs.proofs.RowsHeld.{can_push, taken_more}
use Rattle.hsp_price_runs.proofs.holder.RowHolderRowTaker.take_row.Goals as goal

pub push-requires : goal.push-requires
push-requires g c =
    let has = c.requires.2 in
    let old = c.args.self.now in
    let region = c.args.read.region.now in
    let room : length old.rows.rows < 2 ^ 32 = omega arith in
    subst (λ (arcs : List Arc). CanPush old.rows c.in_ok-number.number region arcs) (sym c.arcs.ensures)
    (can_push has.at c.requires.1 old.arcs c.find.new.self old.rows old.asked (has.held has.at has.fresh) region
    (octets_of c.args.read.handle) c.in_ok-number.number c.in_ok-number.ensures.costs c.in_ok-number.ensures.sites
    c.in_ok-number.ensures.regions c.in_ok-number.ensures.number c.in_ok-number.ensures.arcs
    (c.has_no_room.ensures.room c.if-has_no_room.false) room)

pub returns-clause-taken : goal.returns-clause-taken
returns-clause-taken g c first rows has =
    let old = c.args.self.now in
    let region = c.args.read.region.now in
    let held =
    c.show.ensures.rows ∙ c.in_ok-push.ensures.added
    ∙ ap (λ (arcs : List Arc). with_row old.rows c.in_ok-number.number region arcs c.args.read.count) c.arcs.ensures in
    let sum : c.show.new.self.asked ≡ capped (old.asked + c.args.read.count) = omega arith in
    taken_more first old c.show.new.self rows has c.find.new.self region
    (octets_of c.args.read.handle) c.in_ok-number.number c.args.read.count c.in_ok-number.ensures.costs
    c.in_ok-number.ensures.sites c.in_ok-number.ensures.regions c.in_ok-number.ensures.number
    c.in_ok-number.ensures.arcs
    (c.has_no_room.ensures.room c.if-has_no_room.false) c.show.ensures.arcs held sum
