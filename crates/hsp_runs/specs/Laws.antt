-- What holds of all runs over logs.
use Rattle.std.specs.Prelude.{◌≡◌, ℕ, List, Result, Ok}
use Rattle.hsp_cert.specs.Certificate.{Best}
use Rattle.hsp_cert.specs.Certificate.Claim.{best}
use Rattle.hsp_check.specs.Uses.{table}
use Rattle.hsp_log.specs.Entries.{Entry}
use Rattle.hsp_dispatch.specs.Dispatch.{answer_to}
use Rattle.hsp_dispatch.specs.Fronts.{share_of}
use Rattle.hsp_dispatch.specs.Laws.{IsByHash}
use Rattle.hsp_runs.specs.Accepted.{IsAcceptedOf}
use Rattle.hsp_dispatch.specs.Runs.{Streams}
use Rattle.hsp_dispatch.specs.declared.answer.FrontSums.{FrontSums}
use Rattle.hsp_dispatch.specs.declared.answer.LogSums.{LogSums}
use Rattle.hsp_runs.specs.Dispatch.{IsDispatched, IsDispatchedAt}
use Rattle.hsp_runs.specs.Logs.{ShowsFrontsOf, ShowsLogOf}
use Rattle.hsp_runs.specs.declared.accepted.Accepted.{Accepted}
use Rattle.hsp_inputs.specs.declared.fault.Fault.{Fault}
use Rattle.hsp_inputs.specs.declared.inputs.Inputs.{Inputs}

-- Where inputs and a certificate are accepted, each entry is answered by the server that is responsible for
-- its handle by the hash option of the site: by the certificate's plan, and by any front's share of it.
pub record AnswersByHash (accepted : Accepted) (claim : Best) : Type 0 where
  pub plan : (earlier : List Entry) (entry : Entry)
      → IsByHash accepted.instance entry (answer_to accepted.instance (table claim.uses) earlier entry)
  pub share : (fronts front : ℕ) (earlier : List Entry) (entry : Entry)
      → IsByHash accepted.instance entry
      (answer_to accepted.instance (share_of fronts front (table claim.uses)) earlier entry)

abbrev pub LogsGoByHash : Type 0
LogsGoByHash =
    (inputs : Inputs) (octets : List ℕ) (accepted : Accepted) (claim : Best)
    → IsAcceptedOf inputs octets (Ok accepted) → accepted.certificate ≡ best claim
    → AnswersByHash accepted claim

-- what a dispatcher answers, and fronts, to the end of a log or up to a fault, shows what the page says of it
abbrev pub DispatchedLogsShow : Type 0
DispatchedLogsShow =
    (inputs : Inputs) (octets : List ℕ) (run : Streams) (answer : Result LogSums Fault)
    → IsDispatched inputs octets run answer → ShowsLogOf inputs octets run answer

abbrev pub FrontsLogsShow : Type 0
FrontsLogsShow =
    (word : List ℕ) (inputs : Inputs) (octets : List ℕ) (run : Streams) (answer : Result FrontSums Fault)
    → IsDispatchedAt word inputs octets run answer → ShowsFrontsOf word inputs octets run answer
