use Rattle.std.proofs.Common.{◌≡◌, ◌-◌}
use Rattle.hsp_csv.specs.Records.{IsReading}
use Rattle.hsp_dispatch.specs.Runs.{desk_of, streams}
use Rattle.hsp_dispatch.specs.Steps.{log_left}
use Rattle.hsp_dispatch.proofs.Running.{SoFar}
use Rattle.hsp_dispatch.proofs.run.run_rows.Given as goal

abbrev pub invariant-rows : goal.invariant-rows
invariant-rows g l =
    let remaining = g.R.Read.remaining in
    let contents = g.W.Write.contents in
    let desk = g.D.Desk in
    record {
      reading : IsReading l.reader;
      instance : desk.instance l.desk ≡ desk.instance l.fn.desk;
      so_far : SoFar (desk_of desk.header (desk.Answers l.fn.desk l.desk) desk.Refuses)
          (streams (log_left remaining l.fn.reader) (contents l.fn.writer) (contents l.writer)) l.form
          (log_left remaining l.reader) l.row l.sums;
    }

abbrev pub decreases-rows : goal.decreases-rows
decreases-rows g l = 10000001 - l.row
