use Rattle.hsp_cert.specs.Reading.{certificates}
use Rattle.hsp_cert.proofs.LineReading.{one_answer}
use Rattle.hsp_cert.proofs.Taking.{reader, takes}
use Rattle.hsp_cert.proofs.reading.read_cert.Goals as goal

pub returns-clause-only : goal.returns-clause-only
returns-clause-only c =
    λ other m. one_answer certificates reader takes c.args.text.now c.read_lines.result other c.read_lines.ensures m
