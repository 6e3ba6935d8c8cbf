use Rattle.std.proofs.Common.{[], ◌<◌, ◌∙◌, inr, refl, sym, ap, arith, lit≤}
use Rattle.std.proofs.KnownBytes.{Appends-nil}
use Rattle.std.proofs.lemmas.Result.{err_from_is_err_and}
use Rattle.csv.specs.Records.{fields_of}
use Rattle.hsp_dispatch.specs.Lines.{line_by}
use Rattle.hsp_log.specs.Lines.{lines_of}
use Rattle.hsp_dispatch.specs.Runs.{desk_of}
use Rattle.hsp_dispatch.proofs.InTurn.{all_read, header_read, row_read}
use Rattle.hsp_dispatch.proofs.Running.{ends, header_stops, line_stops, read_stops, refused_stops, row_more, too_long}
use Rattle.hsp_log.specs.declared.form.Form.TheVariants.{Handles}
use Rattle.hsp_dispatch.proofs.run.run_rows.Goals as goal

pub returns-in_err-form-clause-stops : goal.returns-in_err-form-clause-stops
returns-in_err-form-clause-stops g c =
    let told = err_from_is_err_and c.from_residual.result c.from_residual.ensures.1 in
    rw (told.1, told.2) (header_stops g.R.Read.remaining c.args.reader.now
    (desk_of g.D.Desk.header (g.D.Desk.Answers c.args.desk.now c.args.desk.now) g.D.Desk.Refuses) _ _ refl
    (c.requires.begins Handles) (Appends-nil _) c.in_err-form.ensures.fault)

pub rows-init : goal.rows-init
rows-init g c = record {
  reading = c.in_ok-form.ensures.reading;
  instance = refl;
  so_far = record {
    rows = [];
    lines = [];
    many = refl;
    within = lit≤ tt;
    read =
        header_read g.R.Read.remaining c.args.reader.now c.take_form.new.reader (g.D.Desk.header c.in_ok-form.form)
        c.in_ok-form.ensures.form;
    answers = rw c.none-sums.ensures (c.requires.begins c.in_ok-form.form);
    written = Appends-nil _;
    counted_all = rw c.none-sums.ensures refl;
  };
}

pub returns-in_err-take_record-clause-stops : goal.returns-in_err-take_record-clause-stops
returns-in_err-take_record-clause-stops g c =
    let told =
    err_from_is_err_and c.from_residual-in_err-take_record.result c.from_residual-in_err-take_record.ensures.1 in
    rw (told.1, told.2) (read_stops _ _ _ _ _ _ c.rows.invariant.so_far _)

pub returns-then-row-eq-MOST_LOG_ROWS-clause-stops : goal.returns-then-row-eq-MOST_LOG_ROWS-clause-stops
returns-then-row-eq-MOST_LOG_ROWS-clause-stops g c =
    let so_far = c.rows.invariant.so_far in
    let row = fields_of c.take_record.new.record in
    let read = row_read g.R.Read.remaining c.rows.reader c.take_record.new.reader _ _ so_far.rows row so_far.read
    (rw c.if-not-branch.false at c.in_ok-take_record.ensures.takes) in
    too_long _ _ _ _ _ _ so_far row _ read c.if-row-eq-MOST_LOG_ROWS.true

pub returns-in_err-given-clause-stops : goal.returns-in_err-given-clause-stops
returns-in_err-given-clause-stops g c =
    let so_far = c.rows.invariant.so_far in
    let row = fields_of c.take_record.new.record in
    let read = row_read g.R.Read.remaining c.rows.reader c.take_record.new.reader _ _ so_far.rows row so_far.read
    (rw c.if-not-branch.false at c.in_ok-take_record.ensures.takes) in
    let below : c.rows.row < 10000000 = omega (arith, so_far.within, c.if-row-eq-MOST_LOG_ROWS.false) in
    let told = err_from_is_err_and c.from_residual-in_err-given.result c.from_residual-in_err-given.ensures.1 in
    rw (told.1, told.2, c.in_err-given.ensures.stays)
    (refused_stops _ _ _ _ _ _ so_far row _ read below _ c.in_err-given.ensures.refuses)

pub returns-in_err-put_all-clause-stops : goal.returns-in_err-put_all-clause-stops
returns-in_err-put_all-clause-stops g c =
    let so_far = c.rows.invariant.so_far in
    let row = fields_of c.take_record.new.record in
    let read = row_read g.R.Read.remaining c.rows.reader c.take_record.new.reader _ _ so_far.rows row so_far.read
    (rw c.if-not-branch.false at c.in_ok-take_record.ensures.takes) in
    let below : c.rows.row < 10000000 = omega (arith, so_far.within, c.if-row-eq-MOST_LOG_ROWS.false) in
    let told = err_from_is_err_and c.from_residual-in_err-put_all.result c.from_residual-in_err-put_all.ensures.1 in
    let line =
    c.line_in.ensures
    ∙ ap (λ lines. line_by lines c.in_ok-given.given)
    (c.requires.lines ∙ ap lines_of (sym c.rows.invariant.instance)) in
    rw (told.1, told.2)
    (line_stops g.D.Desk.instance g.D.Desk.Answers g.D.Desk.header g.D.Desk.Refuses c.args.desk.now c.rows.desk
    c.answer.new.self _ _ _ _ _ _ _ _ _ row _ c.line_in.result.now
    c.in_ok-given.given so_far read c.rows.invariant.instance c.in_ok-given.ensures.answers line below
    c.in_err-put_all.ensures.cut)

pub rows-preserved : goal.rows-preserved
rows-preserved g c =
    let so_far = c.rows.invariant.so_far in
    let row = fields_of c.take_record.new.record in
    let read = row_read g.R.Read.remaining c.rows.reader c.take_record.new.reader _ _ so_far.rows row so_far.read
    (rw c.if-not-branch.false at c.in_ok-take_record.ensures.takes) in
    let below : c.rows.row < 10000000 = omega (arith, so_far.within, c.if-row-eq-MOST_LOG_ROWS.false) in
    let line =
    c.line_in.ensures
    ∙ ap (λ lines. line_by lines c.in_ok-given.given)
    (c.requires.lines ∙ ap lines_of (sym c.rows.invariant.instance)) in
    record {
      reading = c.in_ok-take_record.ensures.reading;
      instance = c.answer.ensures.instance ∙ c.rows.invariant.instance;
      so_far =
          rw c.count.ensures
          (row_more g.D.Desk.instance g.D.Desk.Answers g.D.Desk.header g.D.Desk.Refuses c.args.desk.now c.rows.desk
          c.answer.new.self
          _ _ _ _ _ _ _ _ _ row _ c.line_in.result.now c.in_ok-given.given so_far read c.rows.invariant.instance
          c.in_ok-given.ensures.answers line
          below c.in_ok-put_all.ensures.whole);
    }

pub returns-in-Err-clause-stops : goal.returns-in-Err-clause-stops
returns-in-Err-clause-stops g c =
    let so_far = c.rows.invariant.so_far in
    let whole =
    all_read g.R.Read.remaining c.rows.reader c.take_record.new.reader _ _ so_far.rows
    (fields_of c.take_record.new.record) so_far.read
    (rw c.if-not-branch.true at c.in_ok-take_record.ensures.takes) in
    inr (c.rows.sums, ends _ _ _ _ _ c.in_ok-form.form _ _ c.rows.sums so_far c.flush.ensures.bytes whole)
