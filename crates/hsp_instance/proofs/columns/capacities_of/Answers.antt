use Rattle.std.proofs.Common.{◌∙◌, arith}
use Rattle.hsp_instance.specs.Instance.{Server}
use Rattle.hsp_instance.proofs.Reading.{read_more}
use Rattle.std.proofs.lemmas.Grind.{common_steps}
use Rattle.hsp_instance.proofs.columns.capacities_of.Goals as goal

pub loop-server-preserved : goal.loop-server-preserved
loop-server-preserved c =
    c.in_ok-push.ensures.items
    ∙ read_more (λ (x : Server). x.capacity) _ _ _ _ c.server-capacity.ensures.capacity c.loop-server.invariant

pub returns-clause-capacities : goal.returns-clause-capacities
returns-clause-capacities c = grind (arith, common_steps)

pub returns-clause-few : goal.returns-clause-few
returns-clause-few c = grind (arith, common_steps)
