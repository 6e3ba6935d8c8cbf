use Rattle.std.proofs.Common.{arith}
use Rattle.hsp_record.proofs.Limits.{means, only}
use Rattle.hsp_record.proofs.ValueLimit.{list_limited}
use Rattle.hsp_record.proofs.decoding.decode_values.Goals as goal

pub returns-clause-means : goal.returns-clause-means
returns-clause-means c =
    means list_limited c.args.octets.now c.values_answer.result (λ i. omega (arith, c.type_inv.octets i))
    c.values_answer.ensures

pub returns-clause-only : goal.returns-clause-only
returns-clause-only c =
    λ other m. only list_limited c.args.octets.now c.values_answer.result other c.values_answer.ensures m
