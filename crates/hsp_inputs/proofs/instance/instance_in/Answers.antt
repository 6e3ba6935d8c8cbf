use Rattle.hsp_inputs.proofs.OneFault.{gives_always}
use Rattle.hsp_inputs.proofs.instance.instance_in.Goals as goal

pub returns-clause-always : goal.returns-clause-always
returns-clause-always c =
    gives_always c.instances_are_defined.ensures.only c.args.inputs.now c.read_in_turn.result c.read_in_turn.ensures
