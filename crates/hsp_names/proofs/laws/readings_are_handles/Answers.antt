use Rattle.hsp_names.proofs.Reading.{readings_are_handles}
use Rattle.hsp_names.proofs.laws.readings_are_handles.Goals as goal

pub returns : goal.returns
returns c = readings_are_handles
