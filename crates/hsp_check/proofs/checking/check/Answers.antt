use Rattle.std.proofs.Common.{◌≤◌, ◌∙◌, ap, subst, sym}
use Rattle.hsp_cert.specs.Certificate.{IsCertificate}
use Rattle.hsp_cert.specs.Certificate.Claim.{best, short}
use Rattle.hsp_check.specs.declared.arc.NetworkArc.{NetworkArc}
use Rattle.hsp_check.specs.declared.sums.ArcFlow.{ArcFlow}
use Rattle.hsp_check.specs.declared.verdict.Verdict.{Verdict}
use Rattle.hsp_check.specs.Network.{Network}
use Rattle.hsp_check.specs.Instance.{network_of}
use Rattle.hsp_check.specs.Reach.{network_in, network_with}
use Rattle.hsp_check.specs.Verdict.{IsVerdict}
use Rattle.hsp_check.proofs.FlowSums.{all_of_map}
use Rattle.hsp_check.proofs.Validity.{Says, says, is_best, is_short, where_ok}
use Rattle.hsp_check.proofs.checking.check.Goals as goal

pub with-requires-clause-cheap : goal.with-requires-clause-cheap
with-requires-clause-cheap c =
    let network = c.in_ok-numbers in
    let same = (ap (λ (n : Network). n.arcs) network.ensures.network) in
    rw c.deref.ensures.value
    (all_of_map (λ (l : ArcFlow). l.arc) (λ (a : NetworkArc). a.cost ≤ 1000000) network.field-0.arcs.arc_flows.items
    (rw same network.ensures.cheap))

pub returns-in-Some : goal.returns-in-Some
returns-in-Some c =
    let n = network_of c.args.instance.now in
    let claim = c.args.certificate.now in
    let built = c.in_ok-numbers in
    let network = network_with built.field-0.numbers built.field-0.arcs.arc_flows.items in
    let plan = is_best claim c.in-Some.plan c.in-Some.ensures.plan in
    let ranges : IsCertificate claim = subst (λ c. IsCertificate c) (sym plan) c.in-Some.ensures.ranges in
    let told : (v : Verdict) → IsVerdict network (best c.in-Some.plan) v → Says n claim v = λ v is.
    says n claim v built.ensures.is ranges
    (subst (λ n. IsVerdict n claim v) built.ensures.network (subst (λ c. IsVerdict network c v) (sym plan) is)) in
    record {
      verdict = where_ok _ _ c.check_plan.result (λ v is. (told v is).verdict) c.check_plan.ensures;
      valid = where_ok _ _ c.check_plan.result (λ v is. (told v is).valid) c.check_plan.ensures;
      best = where_ok _ _ c.check_plan.result (λ v is. (told v is).best_plan) c.check_plan.ensures;
      prices = where_ok _ _ c.check_plan.result (λ v is. (told v is).prices) c.check_plan.ensures;
      short = where_ok _ _ c.check_plan.result (λ v is. (told v is).short_set) c.check_plan.ensures;
      none = where_ok _ _ c.check_plan.result (λ v is. (told v is).none) c.check_plan.ensures;
    }

pub returns : goal.returns
returns c =
    let n = network_of c.args.instance.now in
    let claim = c.args.certificate.now in
    let built = c.in_ok-numbers in
    let network = (rw c.deref.ensures.value at c.with.ensures.network) ∙ built.ensures.network in
    let set = is_short claim c.unwrap-set.result (sym c.unwrap-set.ensures ∙ c.as_short.ensures.set) in
    let ranges : IsCertificate claim =
    subst (λ c. IsCertificate c) (sym set) (rw c.unwrap-set.ensures at c.as_short.ensures.ranges) in
    let told : (v : Verdict) → IsVerdict (network_in c.with.result) (short c.unwrap-set.result) v → Says n claim v =
    λ v is.
    says n claim v built.ensures.is ranges
    (subst (λ n. IsVerdict n claim v) network
    (subst (λ c'. IsVerdict (network_in c.with.result) c' v) (sym set) is)) in
    record {
      verdict = where_ok _ _ c.check_set.result (λ v is. (told v is).verdict) c.check_set.ensures;
      valid = where_ok _ _ c.check_set.result (λ v is. (told v is).valid) c.check_set.ensures;
      best = where_ok _ _ c.check_set.result (λ v is. (told v is).best_plan) c.check_set.ensures;
      prices = where_ok _ _ c.check_set.result (λ v is. (told v is).prices) c.check_set.ensures;
      short = where_ok _ _ c.check_set.result (λ v is. (told v is).short_set) c.check_set.ensures;
      none = where_ok _ _ c.check_set.result (λ v is. (told v is).none) c.check_set.ensures;
    }
