use Rattle.std.proofs.Common.{◌≡◌, ◌⊎◌, ◌++◌, List, [], ◌∷◌}
use Rattle.std.proofs.lemmas.Result.{IfErr-weaker, on_ok_weaker}
use Rattle.hsp_instance.specs.Instance.{Row}
use Rattle.hsp_prices.specs.Rows.{Service}
use Rattle.hsp_price_text.specs.declared.certificate.PriceCertificate.{PriceCertificate}
use Rattle.hsp_price_check.specs.Checking.{HasTooMany, IsPassed}
use Rattle.hsp_price_check.specs.declared.fault.PassFault.{PassFault}
use Rattle.hsp_price_check.specs.declared.fault.PassFault.TheVariants.{OutOfMemory, TooManyRegions}
use Rattle.hsp_price_runs.specs.Passing.{StopsAt}
use Rattle.hsp_price_runs.specs.Taking.{HasPassedOver}
use Rattle.hsp_price_runs.proofs.PassedOver.{passes_over, stops_over}
use Rattle.hsp_log.specs.RowsShown.{row_shown}
use Rattle.hsp_price_runs.proofs.taking.PriceCheckRowTaker.take_row.Goals as goal

pub returns-clause-taken : goal.returns-clause-taken
returns-clause-taken c =
    on_ok_weaker c.add.result (passes_over (row_shown c.args.read) c.args.self.now c.add.new.self)
    c.add.ensures.passed

pub returns-clause-fault : goal.returns-clause-fault
returns-clause-fault c =
    let row = row_shown c.args.read in
    let old = c.args.self.now in
    IfErr-weaker c.add.result
    (λ (fault : PassFault). (fault ≡ OutOfMemory)
    ⊎ ((fault ≡ TooManyRegions)
    × ((at : Service) (certificate : PriceCertificate) (rows : List Row) → IsPassed at certificate rows old
    → HasTooMany (rows ++ row ∷ []))))
    (λ (fault : PassFault). (fault ≡ OutOfMemory) ⊎ StopsAt HasPassedOver row old fault)
    (stops_over row old) c.add.ensures.fault
