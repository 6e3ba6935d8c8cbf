use Rattle.std.proofs.Common.{◌∙◌, ap, option_map, arith}
use Rattle.hsp_instance.specs.Instance.{Row}
use Rattle.hsp_instance.proofs.Reading.{read_more}
use Rattle.std.proofs.lemmas.Grind.{common_steps}
use Rattle.hsp_instance.proofs.columns.counts_of.Goals as goal

pub loop-row-preserved : goal.loop-row-preserved
loop-row-preserved c =
    c.in_ok-push.ensures.items
    ∙ read_more (λ (x : Row). x.count) _ _ _ _ (ap (λ r. option_map (λ (x : Row). x.count) r) c.row-count.ensures)
    c.loop-row.invariant

pub returns-clause-counts : goal.returns-clause-counts
returns-clause-counts c = grind (arith, common_steps)

pub returns-clause-few : goal.returns-clause-few
returns-clause-few c = grind (arith, common_steps)
