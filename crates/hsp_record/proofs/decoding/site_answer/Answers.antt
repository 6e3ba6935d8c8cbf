use Rattle.std.proofs.Common.{arith}
use Rattle.hsp_record.proofs.Limits.{rest_within, error_within}
use Rattle.hsp_record.proofs.SiteLimit.{site_limited}
use Rattle.hsp_record.proofs.decoding.site_answer.Goals as goal

pub check_end-requires : goal.check_end-requires
check_end-requires c =
    rest_within site_limited c.args.octets.now c.in-Ok.site c.in-Ok.rest.now (λ i. omega (arith, c.type_inv.octets i))
    c.in-Ok.ensures

pub fault_at-requires : goal.fault_at-requires
fault_at-requires c =
    error_within site_limited c.args.octets.now c.in-Err.e (λ i. omega (arith, c.type_inv.octets i)) c.in-Err.ensures
