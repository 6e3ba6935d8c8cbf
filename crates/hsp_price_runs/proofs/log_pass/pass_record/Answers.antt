use Rattle.std.proofs.lemmas.Result.{on_ok_weaker}
use Rattle.csv.specs.Records.{fields_of}
use Rattle.hsp_log.specs.RowsShown.{parts_shown, row_shown}
use Rattle.hsp_price_runs.specs.Passing.{Takes}
use Rattle.hsp_price_runs.proofs.RowsTaken.{good_row}
use Rattle.hsp_price_runs.proofs.log_pass.pass_record.Goals as goal

pub returns-in-Ok-clause-passed : goal.returns-in-Ok-clause-passed
returns-in-Ok-clause-passed g c =
    on_ok_weaker c.pass_row.result
    (λ (takes : Takes g.T.RowTaker.HasTaken (row_shown c.in-Ok.read) c.args.taker.now c.pass_row.new.taker). record {
      row = row_shown c.in-Ok.read;
      spelled =
          good_row c.args.form c.args.row (fields_of c.args.record.now) (parts_shown c.in-Some.parts)
          (row_shown c.in-Ok.read) c.in-Some.ensures c.in-Ok.ensures.row;
      takes = takes;
    }) c.pass_row.ensures.passed
