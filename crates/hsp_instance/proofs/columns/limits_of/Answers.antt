use Rattle.std.proofs.Common.{◌∙◌, ap, option_map, arith}
use Rattle.hsp_instance.specs.Instance.{Host}
use Rattle.hsp_instance.proofs.Reading.{read_more}
use Rattle.std.proofs.lemmas.Grind.{common_steps}
use Rattle.hsp_instance.proofs.columns.limits_of.Goals as goal

pub loop-host-preserved : goal.loop-host-preserved
loop-host-preserved c =
    c.in_ok-push.ensures.items
    ∙ read_more (λ (x : Host). x.limit) _ _ _ _ (ap (λ h. option_map (λ (x : Host). x.limit) h) c.host-limit.ensures)
    c.loop-host.invariant

pub returns-clause-limits : goal.returns-clause-limits
returns-clause-limits c = grind (arith, common_steps)

pub returns-clause-few : goal.returns-clause-few
returns-clause-few c = grind (arith, common_steps)
