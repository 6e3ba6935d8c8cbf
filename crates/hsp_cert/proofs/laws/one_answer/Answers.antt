use Rattle.hsp_cert.specs.Reading.{certificates}
use Rattle.hsp_cert.proofs.LineReading.{one_answer}
use Rattle.hsp_cert.proofs.Taking.{reader, takes}
use Rattle.hsp_cert.proofs.laws.one_answer.Goals as goal

pub returns : goal.returns
returns c = one_answer certificates reader takes
