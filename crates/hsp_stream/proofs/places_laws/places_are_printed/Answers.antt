use Rattle.hsp_stream.proofs.PlacesPrinted as lemmas
use Rattle.hsp_stream.proofs.places_laws.places_are_printed.Goals as goal

pub returns : goal.returns
returns c = lemmas.places_are_printed c.readings_are_handles.ensures
