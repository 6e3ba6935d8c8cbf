use Rattle.std.proofs.Common.{◌≡◌, ◌∙◌}
use Rattle.hsp_check.specs.Uses.{table}
use Rattle.hsp_dispatch.specs.Standings.{all_sums}
use Rattle.hsp_dispatch.proofs.FrontsHeld.{all_hold, all_share}
use Rattle.hsp_dispatch.proofs.Standings.{all_long}
use Rattle.hsp_dispatch.proofs.fronts.Fronts.over.Goals as goal
use Rattle.hsp_dispatch.proofs.fronts.Fronts.over.Goals.{In_ok-lefts}

-- the numbers of the fronts are the sums of their shares
sums : (c : In_ok-lefts) → c.in_ok-lefts.lefts ≡ all_sums c.args.fronts c.in_ok-rows.rows.items
sums c = rw c.deref.ensures.value at (c.in_ok-lefts.ensures ∙ c.in_ok-sums_in.ensures)

pub invariant_of-result : goal.invariant_of-result
invariant_of-result c =
    rw (sums (goal.at.invariant_of-result c).In_ok-lefts, c.in_ok-plan.ensures) (
      all_hold c.args.instance.now c.args.fronts c.in_ok-rows.rows.items c.in_ok-rows.ensures.held,
      all_long c.args.fronts c.in_ok-rows.rows.items,
    )

pub returns : goal.returns
returns c =
    rw (sums (goal.at.returns c).In_ok-lefts, c.in_ok-plan.ensures)
    (all_share c.args.instance.now c.args.fronts c.in_ok-rows.rows.items c.in_ok-rows.ensures.held
    (table c.args.uses.now) c.in_ok-rows.ensures.table)
