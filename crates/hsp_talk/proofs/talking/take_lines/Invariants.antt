use Rattle.std.proofs.Common.{◌+◌, ◌≤◌, length}
use Rattle.hsp_talk.specs.Talk.{cut, last_line, rows_of, whole_lines}
use Rattle.hsp_talk.specs.declared.limits.TheConstants.{LONGEST_ROW}
use Rattle.hsp_talk.proofs.Rows.{SoFar}
use Rattle.hsp_talk.proofs.talking.take_lines.Given as goal

-- the lines of the octets so far were taken
abbrev pub invariant-lines : goal.invariant-lines
invariant-lines g l = record {
  so_far : SoFar g.D.Responder.Takes l.fn.responder l.responder (rows_of (whole_lines l.fn.line.items l.octets))
      (cut (last_line l.fn.line.items l.octets)) l.line.items l.rest l.fn.owed.items l.owed.items;
  short : length l.line.items ≤ LONGEST_ROW + 1;
}

abbrev pub decreases-lines : goal.decreases-lines
decreases-lines g l = length l.rest
