use Rattle.std.proofs.lemmas.Result.{on_ok_weaker}
use Rattle.hsp_inputs.proofs.Pieces.{two_pieces}
use Rattle.hsp_inputs.proofs.fault_words.push_no_capacity.Goals as goal

pub returns : goal.returns
returns c =
    on_ok_weaker c.push_with.result
    (λ digits. two_pieces _ _ _ _ _ c.in_ok-push_site.ensures (rw c.from.ensures at digits)) c.push_with.ensures
