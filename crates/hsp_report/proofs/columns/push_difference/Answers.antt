use Rattle.hsp_report.proofs.Pieces.{five_pieces}
use Rattle.hsp_report.proofs.columns.push_difference.Goals as goal

pub returns : goal.returns
returns c =
    five_pieces _ _ _ _ _ _ _ _ _ _ _ c.in_ok-extend_from_slice.ensures.items c.in_ok-push_term.ensures
    c.in_ok-push_term-2.ensures c.in_ok-push_term-3.ensures c.in_ok-push.ensures.items
