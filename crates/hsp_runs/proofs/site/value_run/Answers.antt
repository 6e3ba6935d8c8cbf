use Rattle.std.proofs.Common.{◌≡◌, rules, true}
use Rattle.hsp_runs.specs.SiteText.{is_site_value}
use Rattle.hsp_inputs.proofs.Naming.{same_value}
use Rattle.hsp_runs.proofs.Printing.{in_value}
use Rattle.hsp_runs.proofs.site.value_run.Goals as goal

pub returns : goal.returns
returns c =
    let is : is_site_value c.in-Some.value ≡ true = search rules in
    let values = c.in_ok-values.values in
    let same = same_value _ _ c.decode_values.result values c.in_ok-values.ensures in
    let means = rw same at c.decode_values.ensures.means in
    in_value c.args.octets.now c.args.index c.in-Some.value c.record_run.result
    (values, means, search rules) is (rw c.octets.ensures at c.record_run.ensures)
