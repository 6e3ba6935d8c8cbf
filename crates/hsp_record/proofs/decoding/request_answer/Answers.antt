use Rattle.std.proofs.Common.{◌≤◌, ℕ, List, length, subst, arith}
use Rattle.hsp_record.specs.declared.fault.ReadError.TheVariants.{Stopped}
use Rattle.hsp_record.proofs.Limits.{rest_within, error_within}
use Rattle.hsp_record.proofs.RequestLimit.{request_limited}
use Rattle.hsp_record.proofs.decoding.request_answer.Goals as goal

pub check_end-requires : goal.check_end-requires
check_end-requires c =
    let found = c.in-Ok.ensures in
    subst (λ (rest : List ℕ). length rest ≤ length c.args.octets.now) found.1.1
    (rest_within request_limited c.args.octets.now found.0.0 found.0.1 (λ i. omega (arith, c.type_inv.octets i))
    found.2)

pub fault_at-requires : goal.fault_at-requires
fault_at-requires c =
    error_within request_limited c.args.octets.now (Stopped c.in-Err.stop) (λ i. omega (arith, c.type_inv.octets i))
    c.in-Err.ensures
