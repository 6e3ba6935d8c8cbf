-- What a plan by prices answers wherever inputs define an instance and a log has rows.
use Rattle.std.specs.Prelude.{◌⊎◌, ⊤, ℕ, List, Option, Some, None, Result, Ok, Err}
use Rattle.hsp_csv.specs.Records.{records_of}
use Rattle.hsp_instance.specs.Instance.{Row}
use Rattle.hsp_prices.specs.Rows.{Service}
use Rattle.hsp_inputs.specs.declared.inputs.Inputs.{Inputs}
use Rattle.hsp_price_check.specs.Classes.{service_of}
use Rattle.hsp_price_runs.specs.PriceAlways.{HasRows}
use Rattle.hsp_inputs.specs.Stopping.{MayStopReading}
use Rattle.hsp_inputs.specs.declared.stream_fault.StreamFault.{StreamFault}
use Rattle.hsp_price_runs.specs.PlanRun.{IsPlanBy}
use Rattle.hsp_price_runs.specs.declared.prices_text.PricesText.{PricesText}

-- a text of a plan of the rows; or they are too large for one, or memory ran out, or a read failed, where one may
abbrev pub IsPlanUnless : Type 0 → Service → List Row → Result PricesText StreamFault → Type 0
IsPlanUnless MayFail at rows (Ok text) = IsPlanBy at rows (Ok text)
IsPlanUnless MayFail at rows (Err fault) = MayStopReading MayFail fault ⊎ IsPlanBy at rows (Err fault)

-- so it is for all rows, where the octets of the log are known
abbrev pub PlansAlways : Type 0 → Inputs → Option (List ℕ) → Result PricesText StreamFault → Type 0
PlansAlways MayFail inputs None answer = ⊤
PlansAlways MayFail inputs (Some log) answer =
    (has : HasRows inputs (records_of log)) → IsPlanUnless MayFail (service_of has.costs has.it) has.rows answer
