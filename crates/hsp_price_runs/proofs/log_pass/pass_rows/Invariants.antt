use Rattle.std.proofs.Common.{◌-◌, ◌^◌}
use Rattle.hsp_csv.specs.Records.{IsReading}
use Rattle.hsp_log.specs.Watching.{watched_left}
use Rattle.hsp_price_runs.proofs.LogReading.{TakenSoFar}
use Rattle.hsp_price_runs.proofs.log_pass.pass_rows.Given as goal

abbrev pub invariant-rows : goal.invariant-rows
invariant-rows g l = record {
  reading : IsReading l.reader;
  so_far : TakenSoFar g.T.RowTaker.HasTaken l.form l.fn.taker
      (watched_left g.R.Read.remaining) l.fn.reader l.reader l.row l.taker;
}

abbrev pub decreases-rows : goal.decreases-rows
decreases-rows g l = 2 ^ 64 - l.row
