use Rattle.hsp_record.proofs.Limits.{one_spelling}
use Rattle.hsp_record.proofs.SiteLimit.{site_limited}
use Rattle.hsp_record.proofs.ValueLimit.{list_limited}
use Rattle.hsp_record.proofs.RequestLimit.{request_limited}
use Rattle.hsp_record.proofs.laws.one_spelling.Goals as goal

pub returns : goal.returns
returns c =
    record {
      sites = one_spelling site_limited;
      value_lists = one_spelling list_limited;
      requests = one_spelling request_limited;
    }
