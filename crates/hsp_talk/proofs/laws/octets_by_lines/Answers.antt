use Rattle.hsp_talk.proofs.LineLaws.{each_one_line, octets_again}
use Rattle.hsp_talk.proofs.laws.octets_by_lines.Goals as goal

pub returns : goal.returns
returns c = record { make = octets_again; once = each_one_line }
