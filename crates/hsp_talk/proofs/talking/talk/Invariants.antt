use Rattle.std.proofs.Common.{◌≡◌, ◌+◌, ◌≤◌, [], length}
use Rattle.hsp_talk.specs.declared.limits.TheConstants.{LONGEST_ROW}
use Rattle.hsp_talk.specs.Known.{IsHandedOn, Went}
use Rattle.hsp_talk.specs.Turns.{IsAt}
use Rattle.hsp_talk.proofs.Talks.{HasRead}
use Rattle.hsp_talk.proofs.talking.talk.Given as goal

-- Before a read nothing is owed, all rows that came in were taken, and the line is no longer than a row and one octet
-- more.
-- What was written is handed on, and each turn has read once.
abbrev pub invariant-turns : goal.invariant-turns
invariant-turns g l =
    let start = g.P.Peer.known l.fn.peer in
    let now = g.P.Peer.known l.peer in
    record {
      none_owed : l.owed.items ≡ [];
      so_far : IsAt g.D.Responder.Takes l.fn.responder l.responder l.line.items start now;
      short : length l.line.items ≤ LONGEST_ROW + 1;
      handed : IsHandedOn start now;
      reads : Went start now (HasRead l._turn);
      lasts : g.P.Peer.may_read_fail l.peer → g.P.Peer.may_read_fail l.fn.peer;
    }
