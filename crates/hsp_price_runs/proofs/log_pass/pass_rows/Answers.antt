use Rattle.std.proofs.Common.{inl, inr}
use Rattle.std.proofs.lemmas.Result.{err_from_is_err_and}
use Rattle.csv.specs.Records.{fields_of}
use Rattle.hsp_log.specs.Watching.{watched_left}
use Rattle.hsp_price_runs.proofs.LogReading.{none_taken, one_bad, one_taken, some_taken}
use Rattle.hsp_price_runs.proofs.log_pass.pass_rows.Goals as goal

pub rows-init : goal.rows-init
rows-init g c = record {
  reading = c.requires.reading;
  so_far =
      none_taken g.T.RowTaker.HasTaken c.args.form c.args.taker.now (watched_left g.R.Read.remaining) c.args.reader.now
      c.requires.fresh;
}

pub pass_record-requires : goal.pass_record-requires
pass_record-requires g c =
    some_taken g.T.RowTaker.HasTaken c.args.form c.args.taker.now
    (watched_left g.R.Read.remaining) c.args.reader.now c.rows.reader
    c.take_watched.new.reader c.rows.row c.rows.taker
    (fields_of c.take_watched.new.record) c.rows.invariant.so_far

pub returns-in_err-pass_record-clause-fault : goal.returns-in_err-pass_record-clause-fault
returns-in_err-pass_record-clause-fault g c =
    let told =
    err_from_is_err_and c.from_residual-in_err-pass_record.result c.from_residual-in_err-pass_record.ensures.1 in
    let so_far = c.rows.invariant.so_far in
    let fields = fields_of c.take_watched.new.record in
    let next = c.take_watched.new.reader in
    rw (told.1, told.2) (elim c.in_err-pass_record.ensures.fault [
      | inl memory ↦ inl (inl memory)
      | inr bad ↦
          inr
          (one_bad g.T.RowTaker.HasTaken c.args.form c.args.taker.now
          (watched_left g.R.Read.remaining) c.args.reader.now
          c.rows.reader next c.rows.row c.rows.taker fields so_far c.in_err-pass_record.field-0.0
          (rw c.if-not-branch.false at c.in_ok-take_watched.ensures.takes)
          (bad c.args.taker.now so_far.rows so_far.taken))
    ])

pub rows-preserved : goal.rows-preserved
rows-preserved g c = record {
  reading = c.in_ok-take_watched.ensures.reading;
  so_far =
      one_taken g.T.RowTaker.HasTaken c.args.form c.args.taker.now
      (watched_left g.R.Read.remaining) c.args.reader.now c.rows.reader
      c.take_watched.new.reader c.rows.row c.rows.taker
      (fields_of c.take_watched.new.record) c.rows.invariant.so_far c.pass_record.new.taker
      (rw c.if-not-branch.false at c.in_ok-take_watched.ensures.takes) c.in_ok-pass_record.ensures.passed;
}
