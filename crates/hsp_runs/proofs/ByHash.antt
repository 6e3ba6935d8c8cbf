-- Logs go by the hashes of handles.
use Rattle.std.proofs.Common.{◌≡◌, ℕ, List, Ok, Err}
use Rattle.hsp_instance.specs.Instance.{Instance}
use Rattle.hsp_cert.specs.Certificate.{Best, Claim}
use Rattle.hsp_cert.specs.Reading.{Means}
use Rattle.hsp_check.specs.Instance.{network_of}
use Rattle.hsp_check.specs.Uses.{table}
use Rattle.hsp_check.specs.Valid.{IsValid}
use Rattle.hsp_dispatch.specs.Fronts.{share_of}
use Rattle.hsp_dispatch.specs.Laws.{KeepsToArcs}
use Rattle.hsp_dispatch.proofs.ByHash.{goes_by_hash}
use Rattle.hsp_log.proofs.FrontShares.{share_none}
use Rattle.hsp_runs.specs.Accepted.{IsAcceptedOf}
use Rattle.hsp_runs.specs.Check.{IsCertificate}
use Rattle.hsp_inputs.specs.Instance.{IsInstanceOf}
use Rattle.hsp_runs.specs.Laws.{LogsGoByHash}
use Rattle.hsp_runs.specs.declared.accepted.Accepted.{Accepted}
use Rattle.hsp_inputs.specs.declared.inputs.Inputs as files
use Rattle.hsp_inputs.proofs.PageRead.{hold}

-- what is accepted was read, and its certificate is valid for its instance
pub accepted_of : (inputs : files.Inputs) (octets : List ℕ) (accepted : Accepted)
    → IsAcceptedOf inputs octets (Ok accepted)
    → IsInstanceOf inputs (Ok accepted.instance) × IsCertificate octets (Ok accepted.certificate)
    × IsValid (network_of accepted.instance) accepted.certificate
accepted_of inputs octets accepted (Err e, read, same) = cc (same)
accepted_of inputs octets accepted (Ok it, read, (Err e, certified, same)) = cc (same)
accepted_of inputs octets accepted (Ok it, read, (Ok claim, certified, judged)) =
    rw (judged.0, judged.1) (read, certified, judged.2)

-- a certificate that was read is what its text means
pub certificate_is : (octets : List ℕ) (claim : Claim) → IsCertificate octets (Ok claim) → Means octets (Ok claim)
certificate_is octets claim (Ok own, means, memory, e) = let same : claim ≡ own = cc (e) in rw same means
certificate_is octets claim (Err fault, means, memory, e) = cc (e)

-- a front's share of a plan keeps to the arcs where the plan does
shares_keep : (it : Instance) (c : Best) (fronts front : ℕ) → KeepsToArcs it (table c.uses)
    → KeepsToArcs it (share_of fronts front (table c.uses))
shares_keep it c fronts front keeps row site none = rw (keeps row site none) (share_none fronts front)

-- each query of a log goes to the server that its site's hash names
pub logs_go_by_hash : LogsGoByHash
logs_go_by_hash inputs octets accepted claim is kind =
    let of = accepted_of inputs octets accepted is in
    let (read, holds, built) = hold inputs accepted.instance of.0 in
    let keeps : KeepsToArcs accepted.instance (table claim.uses) = (rw kind at of.2).feasible.allowed in
    record {
      plan = λ earlier entry. goes_by_hash read accepted.instance (table claim.uses) earlier entry built keeps;
      share =
          λ fronts front earlier entry. goes_by_hash read accepted.instance (share_of fronts front (table claim.uses))
          earlier entry built
          (shares_keep accepted.instance claim fronts front keeps);
    }
