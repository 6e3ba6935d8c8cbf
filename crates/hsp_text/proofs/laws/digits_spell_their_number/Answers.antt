use Rattle.hsp_text.proofs.Numerals.{digits_spell_their_number}
use Rattle.hsp_text.proofs.laws.digits_spell_their_number.Goals as goal

pub returns : goal.returns
returns c = digits_spell_their_number
