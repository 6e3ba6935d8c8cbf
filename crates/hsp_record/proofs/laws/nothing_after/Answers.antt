use Rattle.hsp_record.proofs.Limits.{nothing_after}
use Rattle.hsp_record.proofs.SiteLimit.{site_limited}
use Rattle.hsp_record.proofs.ValueLimit.{list_limited}
use Rattle.hsp_record.proofs.RequestLimit.{request_limited}
use Rattle.hsp_record.proofs.laws.nothing_after.Goals as goal

pub returns : goal.returns
returns c =
    record {
      sites = nothing_after site_limited;
      value_lists = nothing_after list_limited;
      requests = nothing_after request_limited;
    }
