use Rattle.hsp_price_text.specs.Drafts.{reader}
use Rattle.hsp_price_text.specs.Text.{prices}
use Rattle.hsp_cert.proofs.LineReading.{one_answer}
use Rattle.hsp_price_text.proofs.Whole.{takes}
use Rattle.hsp_price_text.proofs.reading.read_prices.Goals as goal

pub returns-clause-only : goal.returns-clause-only
returns-clause-only c =
    λ other m. one_answer prices reader takes c.args.text.now c.read_lines.result other c.read_lines.ensures m
