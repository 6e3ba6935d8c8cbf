use Rattle.std.proofs.Common.{arith, inl, inr, take, ap, subst, sym, ◌∙◌, length-take-le}
use Rattle.hsp_talk.specs.Turns.{AreOwed, rows_ended_by}
use Rattle.hsp_talk.proofs.Rows.{within_cut}
use Rattle.hsp_talk.proofs.Talks.{handed_then, no_more_turns, none_read, none_written, one_more_read, read_fails}
use Rattle.hsp_talk.proofs.Talks.{row_refused, talk_begins, talk_ends, talk_goes_on, write_fails_after}
use Rattle.hsp_talk.proofs.talking.talk.Goals as goal

pub returns-in_default-clause-stops : goal.returns-in_default-clause-stops
returns-in_default-clause-stops g c =
    read_fails g.D.Responder.Takes c.args.responder.now g.D.Responder.Refuses _ c.turns.line.items _ _ _
    c.turns.invariant.so_far
    c.in_default.ensures.fails

pub returns-in_default-send_owed-clause-stops : goal.returns-in_default-send_owed-clause-stops
returns-in_default-send_owed-clause-stops g c =
    write_fails_after g.D.Responder.Takes c.args.responder.now g.D.Responder.Refuses c.turns.responder
    c.take_piece-taken.new.responder
    c.turns.line.items (take c.in-Ok.count c.receive.new.piece)
    c.turns.owed.items c.take_piece-taken.new.owed.items c.take_piece-taken.result _ _ _ _ c.turns.invariant.none_owed
    c.turns.invariant.so_far c.in-Ok.ensures.receives
    c.take_piece-taken.ensures.taken c.take_piece-taken.ensures.cut c.in_default-send_owed.ensures.fails

pub returns-in-Err-clause-stops : goal.returns-in-Err-clause-stops
returns-in-Err-clause-stops g c =
    rw c.stop_for.ensures
    (row_refused g.D.Responder.Takes c.args.responder.now g.D.Responder.Refuses c.turns.responder
    c.take_piece-taken.new.responder
    c.turns.line.items
    (take c.in-Ok.count c.receive.new.piece) c.turns.owed.items c.take_piece-taken.new.owed.items c.in-Err.refusal _ _ _
    _ c.turns.invariant.none_owed
    c.turns.invariant.so_far c.in-Ok.ensures.receives c.in-Err.ensures.cut c.in-Ok-send_owed.ensures.sends)

pub returns-then-count-eq0-clause-whole : goal.returns-then-count-eq0-clause-whole
returns-then-count-eq0-clause-whole g c =
    talk_ends g.D.Responder.Takes c.args.responder.now c.turns.responder c.take_piece-taken.new.responder
    c.turns.line.items
    (take c.in-Ok.count c.receive.new.piece) c.turns.owed.items
    c.take_piece-taken.new.owed.items _ _ _ _ (ap (λ n. take n c.receive.new.piece) c.if-count-eq0.true)
    c.turns.invariant.none_owed c.turns.invariant.so_far c.in-Ok.ensures.receives
    c.in_default-taken.ensures.taken c.in-Ok-send_owed.ensures.sends

pub turns-init : goal.turns-init
turns-init g c =
    let start = g.P.Peer.known c.args.peer.now in
    record {
      none_owed = c.new-owed.ensures.items;
      so_far = rw c.new-line.ensures.items (talk_begins g.D.Responder.Takes c.args.responder.now start);
      short = rw c.new-line.ensures.items (omega arith);
      handed = none_written start;
      reads = none_read start;
      lasts = λ may. may;
    }

pub turns-preserved : goal.turns-preserved
turns-preserved g c =
    let piece = take c.in-Ok.count c.receive.new.piece in
    record {
      none_owed = c.in-Ok-send_owed.ensures.none_owed;
      so_far =
          talk_goes_on g.D.Responder.Takes c.args.responder.now c.turns.responder c.take_piece-taken.new.responder
          c.turns.line.items piece
          c.take_piece-taken.new.line.items
          c.take_piece-taken.new.owed.items _ _ _ _
          (λ none.
          c.if-count-eq0.false
          (sym (length-take-le c.in-Ok.count c.receive.new.piece c.in-Ok.ensures.within) ∙ none))
          c.turns.invariant.so_far c.in-Ok.ensures.receives
          (subst
          (λ o.
          AreOwed g.D.Responder.Takes c.turns.responder c.take_piece-taken.new.responder
          (rows_ended_by c.turns.line.items piece) o
          c.take_piece-taken.new.owed.items) c.turns.invariant.none_owed c.in_default-taken.ensures.taken)
          c.in_default-taken.ensures.begun c.in-Ok-send_owed.ensures.sends;
      short = rw c.in_default-taken.ensures.begun (within_cut _);
      handed =
          handed_then _ _ _ c.turns.invariant.handed
          (handed_then _ _ _ (inl c.receive.ensures.unwritten) c.in-Ok-send_owed.ensures.handed);
      reads =
          one_more_read _ _ _ _ c.turns._turn piece c.take_piece-taken.new.owed.items c.turns.invariant.reads
          c.in-Ok.ensures.receives c.in-Ok-send_owed.ensures.sends;
      lasts = λ may. c.turns.invariant.lasts (c.receive.ensures.lasts (c.send_owed.ensures.lasts may));
    }

pub returns-clause-stops : goal.returns-clause-stops
returns-clause-stops g c =
    no_more_turns g.D.Responder.Takes c.args.responder.now g.D.Responder.Refuses _ c.turns.line.items _ _
    c.turns.invariant.so_far

pub returns-clause-may_stop : goal.returns-clause-may_stop
returns-clause-may_stop g c =
    let (events, goes, so) =
    c.turns.invariant.reads in inr (events, goes, so ∙ omega (arith, c.turns-test.false, c.turns.auto._turn-end))
