use Rattle.hsp_check.proofs.Duality.{short_shows_none}
use Rattle.hsp_check.proofs.laws.short_shows_none.Goals as goal

pub returns : goal.returns
returns c = short_shows_none
