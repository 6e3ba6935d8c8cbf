use Rattle.std.proofs.Common.{◌≡◌, ◌∙◌, eq-eqb, eqb-true}
use Rattle.hsp_check.specs.Reach.{network_in}
use Rattle.hsp_check.specs.Short.{demand_of}
use Rattle.hsp_check.specs.Verdict.{is_one_of}
use Rattle.hsp_check.proofs.Shortages.{chosen_demand}
use Rattle.hsp_check.proofs.set_check.meets_demand.Goals as goal

pub returns : goal.returns
returns c =
    let rows = c.args.set.now.rows in
    let is : c.sum_flagged.result ≡ demand_of (network_in c.args.lists) (is_one_of rows) =
    c.sum_flagged.ensures ∙ chosen_demand c.args.lists c.args.flags.now (is_one_of rows) c.requires.flags in
    rw (c.from.ensures, c.demand.ensures, is) (λ yes. eqb-true _ _ yes, λ same. eq-eqb _ _ same)
