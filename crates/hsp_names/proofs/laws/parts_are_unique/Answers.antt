use Rattle.hsp_names.proofs.Reading.{parts_are_unique}
use Rattle.hsp_names.proofs.laws.parts_are_unique.Goals as goal

pub returns : goal.returns
returns c = parts_are_unique
