use Rattle.std.proofs.Common.{length}
use Rattle.hsp_cert.specs.Reading.{certificates}
use Rattle.hsp_cert.proofs.LineReading.{Progress}
use Rattle.hsp_cert.proofs.Taking.{reader, takes}
use Rattle.hsp_cert.proofs.reading.read_lines.Given as goal

abbrev pub invariant-lines : goal.invariant-lines
invariant-lines l = Progress certificates reader takes l.text l.rest l.lines l.draft

abbrev pub decreases-lines : goal.decreases-lines
decreases-lines l = length l.rest
