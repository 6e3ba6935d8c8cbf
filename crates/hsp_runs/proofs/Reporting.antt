-- Reports of certificates of the kinds that are wanted.
use Rattle.std.proofs.Common.{◌≡◌, inl, inr, ℕ, List, Result, Ok, Err, ap}
use Rattle.hsp_text.specs.Answers.{Stands, Then}
use Rattle.hsp_instance.specs.Instance.{Instance}
use Rattle.hsp_cert.specs.Certificate.{Best, Claim, Short}
use Rattle.hsp_cert.specs.Certificate.Claim.{best, short}
use Rattle.hsp_report.specs.LoadReport.{IsLoadReport}
use Rattle.hsp_report.specs.RegionReport.{IsRegionReport}
use Rattle.hsp_report.specs.ShortageReport.{IsShortageReport}
use Rattle.hsp_runs.specs.Accepted.{plan_in, shortage_in}
use Rattle.hsp_runs.specs.Report.{report_of}
use Rattle.hsp_report.specs.declared.kind.ReportKind.TheVariants.{Load, Region, Shortage}

-- a report of loads is that of its plan
pub loads_shown : (it : Instance) (claim : Claim) (plan : Best) (text : List ℕ) → plan_in claim ≡ Ok plan
    → IsLoadReport it claim text → Ok text ≡ report_of Load it claim
loads_shown it (best c) plan text is report = ap (λ t. Ok t) report
loads_shown it (short c) plan text is report = cc

-- a report of regions is that of its plan
pub regions_shown : (it : Instance) (claim : Claim) (plan : Best) (text : List ℕ) → plan_in claim ≡ Ok plan
    → IsRegionReport it claim text → Ok text ≡ report_of Region it claim
regions_shown it (best c) plan text is report = ap (λ t. Ok t) report
regions_shown it (short c) plan text is report = cc

-- a report of a shortage is that of its set
pub shortage_shown : (it : Instance) (claim : Claim) (set : Short) (text : List ℕ) → shortage_in claim ≡ Ok set
    → IsShortageReport it claim text → Ok text ≡ report_of Shortage it claim
shortage_shown it (best c) set text is report = cc
shortage_shown it (short c) set text is report = ap (λ t. Ok t) report

-- what stands of the second step stands of both, where the first one gave what the second takes
pub stands_then : {X Y A E : Type 0} (memory : E) (view : X → Y) (First : Result A E → Type 0)
    (Next : A → Result Y E → Type 0) (a : A) (answer : Result X E)
    → First (Ok a) → Stands memory view (Next a) answer → Stands memory view (Then First Next) answer
stands_then memory view First Next a (Ok x) first next = (Ok a, first, next)
stands_then memory view First Next a (Err e) first (inl lacking) = inl lacking
stands_then memory view First Next a (Err e) first (inr next) = inr (Ok a, first, next)
