use Rattle.hsp_record.proofs.Limits.{one_answer}
use Rattle.hsp_record.proofs.SiteLimit.{site_limited}
use Rattle.hsp_record.proofs.ValueLimit.{list_limited}
use Rattle.hsp_record.proofs.RequestLimit.{request_limited}
use Rattle.hsp_record.proofs.laws.one_answer.Goals as goal

pub returns : goal.returns
returns c =
    record {
      sites = one_answer site_limited;
      value_lists = one_answer list_limited;
      requests = one_answer request_limited;
    }
