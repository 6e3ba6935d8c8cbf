use Rattle.hsp_csv.specs.Walks.{placed_left, shown}
use Rattle.hsp_stream.proofs.Listing.{adds_line, at_stop, begins, cuts_last, cuts_line, ends_here, ends_last, goes_on}
use Rattle.hsp_stream.proofs.Listing.{stops_here}
use Rattle.hsp_stream.proofs.faulty_rows.list_rows.Goals as goal
use Rattle.hsp_stream.proofs.faulty_rows.list_rows.Goals.{in-Good, in-Faulty+in_ok-put_found-in-Faulty}

pub rows-init : goal.rows-init
rows-init g c = record { ready = c.requires; far = begins _ _ _ }

pub returns-in_err-take_placed-clause-begun : goal.returns-in_err-take_placed-clause-begun
returns-in_err-take_placed-clause-begun g c =
    let left = placed_left g.R.Read.remaining c.rows.reader in
    at_stop c.from_residual.result
    (stops_here _ c.rows.checker c.rows.checker _ left left _ _ _ c.rows.invariant.far)

pub returns-then-not-branch-clause-listed : goal.returns-then-not-branch-clause-listed
returns-then-not-branch-clause-listed g c =
    let left = placed_left g.R.Read.remaining c.rows.reader in
    let after = placed_left g.R.Read.remaining c.take_placed.new.reader in
    ends_here _ c.rows.checker c.rows.checker _ left after _ _ _ c.rows.invariant.far (shown c.take_placed.new.placed)
    (rw c.if-not-branch.true at c.in_ok-take_placed.ensures)

pub returns-in_err-check-clause-begun : goal.returns-in_err-check-clause-begun
returns-in_err-check-clause-begun g c =
    let left = placed_left g.R.Read.remaining c.rows.reader in
    at_stop c.from_residual-in_err-check.result
    (stops_here _ c.rows.checker c.rows.checker _ left left _ _ _ c.rows.invariant.far)

pub returns-in_err-put_found-in-Faulty-clause-begun : goal.returns-in_err-put_found-in-Faulty-clause-begun
returns-in_err-put_found-in-Faulty-clause-begun g c =
    let left = placed_left g.R.Read.remaining c.rows.reader in
    let after = placed_left g.R.Read.remaining c.take_placed.new.reader in
    at_stop c.from_residual-in_err-put_found-in-Faulty.result
    (cuts_line _ c.rows.checker c.check.new.self _ left after _ _ _ c.rows.invariant.far
    (shown c.take_placed.new.placed) (rw c.if-not-branch.false at c.in_ok-take_placed.ensures) c.in-Faulty.found _
    (rw c.in-Faulty.is at c.in_ok-check.ensures.looks) c.in_err-put_found-in-Faulty.ensures.begun)

pub returns-in_err-put_found-in-Last-clause-begun : goal.returns-in_err-put_found-in-Last-clause-begun
returns-in_err-put_found-in-Last-clause-begun g c =
    let left = placed_left g.R.Read.remaining c.rows.reader in
    let after = placed_left g.R.Read.remaining c.take_placed.new.reader in
    at_stop c.from_residual-in_err-put_found-in-Last.result
    (cuts_last _ c.rows.checker c.check.new.self _ left after _ _ _ c.rows.invariant.far
    (shown c.take_placed.new.placed) (rw c.if-not-branch.false at c.in_ok-take_placed.ensures) c.in-Last.found _
    (rw c.in-Last.is at c.in_ok-check.ensures.looks) c.in_err-put_found-in-Last.ensures.begun)

pub returns-in-Last-clause-listed : goal.returns-in-Last-clause-listed
returns-in-Last-clause-listed g c =
    let left = placed_left g.R.Read.remaining c.rows.reader in
    let after = placed_left g.R.Read.remaining c.take_placed.new.reader in
    ends_last _ c.rows.checker c.check.new.self _ left after _ _ _ c.rows.invariant.far
    (shown c.take_placed.new.placed) (rw c.if-not-branch.false at c.in_ok-take_placed.ensures) c.in-Last.found _
    (rw c.in-Last.is at c.in_ok-check.ensures.looks) c.in_ok-put_found-in-Last.ensures.put

pub rows-preserved : goal.rows-preserved
rows-preserved g c =
    let left = placed_left g.R.Read.remaining c.rows.reader in
    let after = placed_left g.R.Read.remaining c.take_placed.new.reader in
    let takes = rw c.if-not-branch.false at c.in_ok-take_placed.ensures in
    elim c.match-branch-3.branch [
      | in-Good w ↦
          record {
            ready = c.in_ok-check.ensures.ready;
            far = rw (w.writer-is, w.some-is)
                (goes_on _ c.rows.checker c.check.new.self _ left after _ _ _ c.rows.invariant.far
                (shown c.take_placed.new.placed) takes (rw w.in-Good.is at c.in_ok-check.ensures.looks));
          }
      | in-Faulty+in_ok-put_found-in-Faulty w ↦
          record {
            ready = c.in_ok-check.ensures.ready;
            far = rw (w.writer-is, w.some-is)
                (adds_line _ c.rows.checker c.check.new.self _ left after _ _ _ c.rows.invariant.far
                (shown c.take_placed.new.placed) takes w.in-Faulty.found _
                (rw w.in-Faulty.is at c.in_ok-check.ensures.looks) w.in_ok-put_found-in-Faulty.ensures.put);
          }
    ]

pub returns-clause-begun : goal.returns-clause-begun
returns-clause-begun g c =
    let left = placed_left g.R.Read.remaining c.rows.reader in
    stops_here _ c.rows.checker c.rows.checker _ left left _ _ _ c.rows.invariant.far
