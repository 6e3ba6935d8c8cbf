use Rattle.std.proofs.lemmas.Result.{IfOk-weaker}
use Rattle.hsp_csv.specs.Walks.{placed_left}
use Rattle.hsp_stream.proofs.Listing.{at_stop, stop_as}
use Rattle.hsp_stream.proofs.Texts.{head_begun, whole_begun, whole_listed}
use Rattle.hsp_stream.proofs.faulty_rows.list_read.Goals as goal

pub returns-in_err-put-clause-begun : goal.returns-in_err-put-clause-begun
returns-in_err-put-clause-begun g c =
    at_stop c.from_residual-in_err-put.result (head_begun c.args.asked _ _ _ c.in_err-put.ensures.begun)

pub returns-clause-listed : goal.returns-clause-listed
returns-clause-listed g c =
    let left = placed_left g.R.Read.remaining c.in_ok-reader.reader in
    IfOk-weaker c.list_text.result _ _
    (λ some listed. whole_listed c.args.asked (g.R.Read.remaining c.args.text) left _ _ _ some c.in_ok-reader.ensures
    c.in_ok-put.ensures.put listed)
    c.list_text.ensures.listed

pub returns-clause-begun : goal.returns-clause-begun
returns-clause-begun g c =
    let left = placed_left g.R.Read.remaining c.in_ok-reader.reader in
    stop_as c.list_text.result
    (λ begun. whole_begun c.args.asked (g.R.Read.remaining c.args.text) left _ _ _ c.in_ok-reader.ensures
    c.in_ok-put.ensures.put begun)
    c.list_text.ensures.begun
