use Rattle.hsp_runs.proofs.Reporting.{loads_shown, regions_shown, shortage_shown}
use Rattle.hsp_runs.proofs.report.reported.Goals as goal

pub returns-in_ok-load_report-in-Load : goal.returns-in_ok-load_report-in-Load
returns-in_ok-load_report-in-Load c =
    let accepted = c.args.accepted.now in
    rw c.in-Load.is
    (loads_shown accepted.instance accepted.certificate _ _ c.in_ok-_plan-in-Load.ensures
    c.in_ok-load_report-in-Load.ensures)

pub returns-in_ok-region_report-in-Region : goal.returns-in_ok-region_report-in-Region
returns-in_ok-region_report-in-Region c =
    let accepted = c.args.accepted.now in
    rw c.in-Region.is
    (regions_shown accepted.instance accepted.certificate _ _ c.in_ok-_plan-in-Region.ensures
    c.in_ok-region_report-in-Region.ensures)

pub returns-in_ok-shortage_report-in-Shortage : goal.returns-in_ok-shortage_report-in-Shortage
returns-in_ok-shortage_report-in-Shortage c =
    let accepted = c.args.accepted.now in
    rw c.in-Shortage.is
    (shortage_shown accepted.instance accepted.certificate _ _ c.in_ok-_set-in-Shortage.ensures
    c.in_ok-shortage_report-in-Shortage.ensures)
