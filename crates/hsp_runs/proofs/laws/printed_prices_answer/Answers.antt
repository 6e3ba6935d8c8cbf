use Rattle.hsp_runs.proofs.Pricing as lemmas
use Rattle.hsp_runs.proofs.laws.printed_prices_answer.Goals as goal

pub returns : goal.returns
returns c = lemmas.printed_prices_answer c.readings_are_handles.ensures
