-- Plans on a network, and what their certificates have to meet.
use Rattle.hsp_cert.specs.Certificate.{Best as BestClaim}
use Rattle.hsp_check.specs.declared.judging.NetworkPlan.{NetworkPlan}
use Rattle.hsp_check.specs.declared.verdict.Reason.{Reason}
use Rattle.hsp_check.specs.Judged.{claim_of}
use Rattle.hsp_check.specs.Reach.{network_in}
use Rattle.hsp_check.specs.Verdict.{PlanMeets}

-- the certificate of a plan on a network
abbrev pub claim_there : NetworkPlan → BestClaim
claim_there plan = claim_of plan.cost plan.uses.now plan.prices

-- what it has to meet there
abbrev pub MeetsThere : NetworkPlan → Reason → Type 0
MeetsThere plan reason = PlanMeets (network_in plan.lists) (claim_there plan) reason
