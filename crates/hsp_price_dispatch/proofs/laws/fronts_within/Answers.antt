use Rattle.hsp_price_dispatch.proofs.Fronts as lemmas
use Rattle.hsp_price_dispatch.proofs.laws.fronts_within.Goals as goal

pub returns-clause-rooms : goal.returns-clause-rooms
returns-clause-rooms c = lemmas.rooms_add_up

pub returns-clause-exceeds : goal.returns-clause-exceeds
returns-clause-exceeds c = lemmas.never_exceeds_together
