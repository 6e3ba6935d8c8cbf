use Rattle.std.proofs.Common.{Result, Ok, Err, OnOk, length, sym, ◌∙◌}
use Rattle.hsp_talk.proofs.Rows.{cut_at_end, is_none}
use Rattle.hsp_talk.proofs.talking.take_piece.Goals as goal

in_any_case : {A E : Type 0} (result : Result A E) (P : Type 0) → P → OnOk result P
in_any_case (Ok x) P p = p
in_any_case (Err e) P p = tt

pub returns-then-is_empty-clause-begun : goal.returns-then-is_empty-clause-begun
returns-then-is_empty-clause-begun g c =
    in_any_case c.take_line.result _
    (cut_at_end c.args.line.now.items c.args.piece.now
    (is_none (length c.args.piece.now) (sym c.is_empty.ensures ∙ c.if-is_empty.true)) c.requires)
