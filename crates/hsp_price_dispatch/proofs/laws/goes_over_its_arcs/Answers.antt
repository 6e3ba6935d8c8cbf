use Rattle.hsp_price_dispatch.proofs.Arcs as lemmas
use Rattle.hsp_price_dispatch.proofs.laws.goes_over_its_arcs.Goals as goal

pub returns-clause-goes : goal.returns-clause-goes
returns-clause-goes c = lemmas.goes_over

pub returns-clause-least : goal.returns-clause-least
returns-clause-least c = lemmas.least_are_arcs
