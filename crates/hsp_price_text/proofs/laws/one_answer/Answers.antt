use Rattle.hsp_price_text.specs.Drafts.{reader}
use Rattle.hsp_price_text.specs.Text.{prices}
use Rattle.hsp_cert.proofs.LineReading.{one_answer}
use Rattle.hsp_price_text.proofs.Whole.{takes}
use Rattle.hsp_price_text.proofs.laws.one_answer.Goals as goal

pub returns : goal.returns
returns c = one_answer prices reader takes
