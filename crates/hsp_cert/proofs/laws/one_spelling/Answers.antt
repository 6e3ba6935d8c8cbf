use Rattle.hsp_cert.specs.Reading.{certificates}
use Rattle.hsp_cert.proofs.LineReading.{one_spelling}
use Rattle.hsp_cert.proofs.Taking.{reader, takes}
use Rattle.hsp_cert.proofs.laws.one_spelling.Goals as goal

pub returns : goal.returns
returns c = one_spelling certificates reader takes
