use Rattle.hsp_instance.proofs.BuiltParts as lemmas
use Rattle.hsp_instance.proofs.laws.built_has_its_parts.Goals as goal

pub returns : goal.returns
returns c = lemmas.built_has_its_parts
