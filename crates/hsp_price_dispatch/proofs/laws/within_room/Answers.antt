use Rattle.hsp_price_dispatch.proofs.RoomTaken as lemmas
use Rattle.hsp_price_dispatch.proofs.laws.within_room.Goals as goal

pub returns-clause-takes : goal.returns-clause-takes
returns-clause-takes c = lemmas.takes_room

pub returns-clause-takes_at_hosts : goal.returns-clause-takes_at_hosts
returns-clause-takes_at_hosts c = lemmas.takes_host_room

pub returns-clause-exceeds : goal.returns-clause-exceeds
returns-clause-exceeds c = lemmas.never_exceeds
