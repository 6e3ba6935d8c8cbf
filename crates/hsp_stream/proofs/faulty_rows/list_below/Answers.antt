use Rattle.std.proofs.lemmas.Result.{IfOk-weaker}
use Rattle.hsp_stream.specs.Checkers.{Lists}
use Rattle.hsp_stream.specs.Faulty.{ListsBelow}
use Rattle.hsp_stream.proofs.Listing.{stop_as}
use Rattle.hsp_stream.proofs.Texts.{begun_as, listed_as}
use Rattle.hsp_stream.proofs.faulty_rows.list_below.Goals as goal

pub returns-clause-listed : goal.returns-clause-listed
returns-clause-listed g c =
    let lists = c.below-checker.ensures.lists in
    IfOk-weaker c.list_rows.result _ _
    (λ some listed. listed_as (Lists c.below-checker.result) (ListsBelow c.args.headed) lists _ _ _ some listed)
    c.list_rows.ensures.listed

pub returns-clause-begun : goal.returns-clause-begun
returns-clause-begun g c =
    let lists = c.below-checker.ensures.lists in
    stop_as c.list_rows.result
    (λ begun. begun_as (Lists c.below-checker.result) (ListsBelow c.args.headed) lists _ _ _ begun)
    c.list_rows.ensures.begun
