use Rattle.std.proofs.Common.{◌∙◌, refl, ap, arith, min}
use Rattle.hsp_network.proofs.expand.offer_over.Goals as goal

pub returns : goal.returns
returns c = record {
  over = refl;
  start = refl;
  enters = c.arc_head.ensures;
  exact = omega (arith, c.reduced_cost.ensures);
  amount = c.min.ensures ∙ ap (min _) c.capacity-greatest_cost.ensures;
}
