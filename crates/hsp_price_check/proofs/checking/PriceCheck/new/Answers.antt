use Rattle.std.proofs.Common.{◌∙◌, [], arith, refl, rules}
use Rattle.hsp_price_check.specs.Checking.{IsJudge}
use Rattle.hsp_price_check.specs.Classes.{service_of}
use Rattle.hsp_price_check.proofs.RegionSteps.{no_regions}
use Rattle.hsp_price_check.proofs.checking.PriceCheck.new.Goals as goal
use Rattle.hsp_price_check.proofs.checking.PriceCheck.new.Goals.{in-Plan+in_ok-judge-in-Plan}
use Rattle.hsp_price_check.proofs.checking.PriceCheck.new.Goals.{in-Shortage+in_ok-judge-in-Shortage}

pub returns : goal.returns
returns c =
    let at = service_of c.args.costs.now c.args.instance.now in
    let judge : IsJudge at c.args.certificate.now [] c.match-certificate.judge =
    elim c.match-certificate.branch [
      | in-Plan+in_ok-judge-in-Plan w ↦
          rw (w.judge-is, w.in-Plan.is) w.in_ok-judge-in-Plan.ensures
      | in-Shortage+in_ok-judge-in-Shortage w ↦
          rw (w.judge-is, w.in-Shortage.is) (w.in_ok-judge-in-Shortage.ensures c.args.costs.now)
    ] in
    record {
      service =
          record {
            sites = c.sites.ensures.within.sites;
            hosts = c.sites.ensures.within.hosts;
            servers = c.sites.ensures.within.servers;
          };
      costs = c.len-rows.ensures.rows;
      costs_are = c.new.ensures.costs;
      sites_are = c.new.ensures.sites ∙ c.sites.ensures.sites;
      regions_are = c.new.ensures.regions;
      few_regions = omega arith;
      judge = judge;
      service_is = refl;
      regions = no_regions _ _ (search rules);
    }
