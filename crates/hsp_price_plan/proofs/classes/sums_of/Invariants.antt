use Rattle.std.proofs.Common.{◌≡◌, take}
use Rattle.hsp_price_check.specs.Extras.{pay_by}
use Rattle.hsp_price_plan.specs.ClassSums.{AreSums, sent_of}
use Rattle.hsp_price_plan.specs.Solving.{arcs_in}
use Rattle.hsp_price_plan.proofs.classes.sums_of.Given as goal

-- the sums of the groups so far
abbrev pub invariant-loop-group : goal.invariant-loop-group
invariant-loop-group l = record {
  begin : l.begin ≡ arcs_in (take l.group-index l.groups);
  sums : AreSums (pay_by l.extras) (sent_of (take l.group-index l.groups) l.flows) l.sums.entries;
}
