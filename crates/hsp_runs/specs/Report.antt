-- What a report of a certificate shows.
use Rattle.std.specs.Prelude.{◌≡◌, ℕ, List, Result, Ok}
use Rattle.hsp_text.specs.Answers.{◌>>=◌, Then}
use Rattle.hsp_instance.specs.Instance.{Instance}
use Rattle.hsp_cert.specs.Certificate.{Claim}
use Rattle.hsp_report.specs.LoadReport.{load_report}
use Rattle.hsp_report.specs.RegionReport.{region_report}
use Rattle.hsp_report.specs.ShortageReport.{shortage_report}
use Rattle.hsp_runs.specs.Accepted.{IsAcceptedOf, plan_in, shortage_in}
use Rattle.hsp_runs.specs.declared.accepted.Accepted.{Accepted}
use Rattle.hsp_inputs.specs.declared.fault.Fault.{Fault}
use Rattle.hsp_inputs.specs.declared.inputs.Inputs.{Inputs}
use Rattle.hsp_report.specs.declared.kind.ReportKind.{ReportKind}
use Rattle.hsp_report.specs.declared.kind.ReportKind.TheVariants.{Load, Region, Shortage}

-- loads and regions are reported of a plan, and a shortage of a short set
abbrev pub report_of : ReportKind → Instance → Claim → Result (List ℕ) Fault
report_of Load it claim = plan_in claim >>= (λ plan. Ok (load_report it plan))
report_of Region it claim = plan_in claim >>= (λ plan. Ok (region_report it plan))
report_of Shortage it claim = shortage_in claim >>= (λ set. Ok (shortage_report it set))

abbrev pub IsReport : ReportKind → Accepted → Result (List ℕ) Fault → Type 0
IsReport kind accepted answer = answer ≡ report_of kind accepted.instance accepted.certificate

-- first the inputs are read, then the certificate, and it is judged; where it is accepted, the report of it is made
abbrev pub IsReported : Inputs → List ℕ → ReportKind → Result (List ℕ) Fault → Type 0
IsReported inputs octets kind = Then (IsAcceptedOf inputs octets) (IsReport kind)
