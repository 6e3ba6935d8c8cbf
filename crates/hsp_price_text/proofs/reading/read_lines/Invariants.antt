use Rattle.std.proofs.Common.{length}
use Rattle.hsp_price_text.specs.Drafts.{reader}
use Rattle.hsp_price_text.specs.Text.{prices}
use Rattle.hsp_cert.proofs.LineReading.{Progress}
use Rattle.hsp_price_text.proofs.Whole.{takes}
use Rattle.hsp_price_text.proofs.reading.read_lines.Given as goal

abbrev pub invariant-lines : goal.invariant-lines
invariant-lines l = Progress prices reader takes l.text l.rest l.lines l.draft

abbrev pub decreases-lines : goal.decreases-lines
decreases-lines l = length l.rest
