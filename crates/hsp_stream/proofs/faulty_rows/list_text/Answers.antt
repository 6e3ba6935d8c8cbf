use Rattle.std.proofs.Common.{◌≡◌, true}
use Rattle.std.proofs.lemmas.Result.{IfOk-weaker}
use Rattle.std.specs.Io.KnownBytes.{Appends}
use Rattle.hsp_csv.specs.Walks.{placed_left, shown}
use Rattle.hsp_stream.specs.Faulty.{found_header}
use Rattle.hsp_stream.specs.FaultLines.{line_of}
use Rattle.hsp_stream.specs.Runs.{LinesAreListed}
use Rattle.hsp_stream.proofs.Listing.{at_stop, both_whole, stop_as}
use Rattle.hsp_stream.proofs.Texts.{below_begun, below_listed, header_begun, nothing_begun, unheaded_listed}
use Rattle.hsp_stream.proofs.faulty_rows.list_text.Goals as goal

pub returns-in_err-take_placed-clause-begun : goal.returns-in_err-take_placed-clause-begun
returns-in_err-take_placed-clause-begun g c = at_stop c.from_residual.result (nothing_begun c.args.asked _ _)

pub returns-then-not-branch-clause-begun : goal.returns-then-not-branch-clause-begun
returns-then-not-branch-clause-begun g c =
    let left = placed_left g.R.Read.remaining c.args.reader.now in
    stop_as c.list_header.result
    (λ begun. header_begun c.args.asked left left (shown c.take_placed.new.placed) _ _ begun)
    c.list_header.ensures.begun

pub returns-in-Some-clause-listed : goal.returns-in-Some-clause-listed
returns-in-Some-clause-listed g c =
    let left = placed_left g.R.Read.remaining c.args.reader.now in
    let after = placed_left g.R.Read.remaining c.take_placed.new.reader in
    let one = shown c.take_placed.new.placed in
    let takes = rw c.if-not-branch.false at c.in_ok-take_placed.ensures in
    let is = rw c.fields.ensures at c.in-Some.ensures.headed in
    IfOk-weaker c.list_below.result _ _
    (λ some listed. below_listed c.args.asked left after one _ _ takes c.in-Some.headed is some listed)
    c.list_below.ensures.listed

pub returns-in-Some-clause-begun : goal.returns-in-Some-clause-begun
returns-in-Some-clause-begun g c =
    let left = placed_left g.R.Read.remaining c.args.reader.now in
    let after = placed_left g.R.Read.remaining c.take_placed.new.reader in
    let one = shown c.take_placed.new.placed in
    let takes = rw c.if-not-branch.false at c.in_ok-take_placed.ensures in
    let is = rw c.fields.ensures at c.in-Some.ensures.headed in
    stop_as c.list_below.result (λ begun. below_begun c.args.asked left after one _ _ takes c.in-Some.headed is begun)
    c.list_below.ensures.begun

pub returns-clause-listed : goal.returns-clause-listed
returns-clause-listed g c =
    let left = placed_left g.R.Read.remaining c.args.reader.now in
    let after = placed_left g.R.Read.remaining c.take_placed.new.reader in
    let one = shown c.take_placed.new.placed in
    let takes = rw c.if-not-branch.false at c.in_ok-take_placed.ensures in
    let is = rw c.fields.ensures at c.in-None.ensures.unheaded in
    let header = c.list_header-in-None in
    let old = g.W.Write.contents c.args.writer.now in
    let new = g.W.Write.contents header.new.writer in
    both_whole (λ some. some ≡ true) (λ some. LinesAreListed c.args.asked left old new some)
    (Appends old new (line_of (found_header c.args.asked))) header.result
    (λ some tells wrote. unheaded_listed c.args.asked left after one old new takes is wrote some tells)
    header.ensures.some header.ensures.put

pub returns-clause-begun : goal.returns-clause-begun
returns-clause-begun g c =
    let left = placed_left g.R.Read.remaining c.args.reader.now in
    let header = c.list_header-in-None in
    stop_as header.result (λ begun. header_begun c.args.asked left left (shown c.take_placed.new.placed) _ _ begun)
    header.ensures.begun
