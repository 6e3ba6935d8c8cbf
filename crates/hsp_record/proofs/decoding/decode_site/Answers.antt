use Rattle.std.proofs.Common.{arith}
use Rattle.hsp_record.proofs.Limits.{means, only}
use Rattle.hsp_record.proofs.SiteLimit.{site_limited}
use Rattle.hsp_record.proofs.decoding.decode_site.Goals as goal

pub returns-clause-means : goal.returns-clause-means
returns-clause-means c =
    means site_limited c.args.octets.now c.site_answer.result (λ i. omega (arith, c.type_inv.octets i))
    c.site_answer.ensures

pub returns-clause-only : goal.returns-clause-only
returns-clause-only c =
    λ other m. only site_limited c.args.octets.now c.site_answer.result other c.site_answer.ensures m
