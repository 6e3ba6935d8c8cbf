use Rattle.hsp_price_dispatch.proofs.Arcs as lemmas
use Rattle.hsp_price_dispatch.proofs.laws.full_without_room.Goals as goal

pub returns : goal.returns
returns c = lemmas.full_without_room
