use Rattle.hsp_inputs.proofs.OneFault.{gives_nothing_else, gives_one_answer}
use Rattle.hsp_inputs.proofs.PageRead.{accepts_the_defined, gives_the_defined}
use Rattle.hsp_inputs.proofs.headline_laws.instances_are_defined.Goals as goal

pub returns : goal.returns
returns c =
    let handles = c.readings_are_handles.ensures in
    let once = gives_one_answer c.one_answer.ensures.value_lists c.built_once.ensures in
    record {
      given = gives_the_defined handles;
      accepted = accepts_the_defined handles;
      once = once;
      only = gives_nothing_else handles once;
    }
