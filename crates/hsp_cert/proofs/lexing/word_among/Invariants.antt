use Rattle.std.proofs.Common.{◌≡◌, drop}
use Rattle.hsp_cert.specs.Lexing.{word_among}
use Rattle.hsp_cert.proofs.lexing.word_among.Given as goal

abbrev pub invariant-loop-word : goal.invariant-loop-word
invariant-loop-word l = word_among (drop l.word-index l.words) l.octets ≡ word_among l.words l.octets
