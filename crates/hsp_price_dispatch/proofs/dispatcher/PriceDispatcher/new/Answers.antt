use Rattle.std.proofs.Common.{◌∙◌, ap, arith, length}
use Rattle.std.proofs.lemmas.List.{length-map}
use Rattle.std.proofs.lemmas.Result.{err_from_is_err_and}
use Rattle.hsp_instance.specs.Instance.{Host, Server}
use Rattle.hsp_price_check.specs.Classes.{service_of}
use Rattle.hsp_price_dispatch.specs.Standing.{IsOfService}
use Rattle.hsp_price_dispatch.proofs.Begun.{index_is}
use Rattle.hsp_price_dispatch.proofs.dispatcher.PriceDispatcher.new.Goals as goal

pub returns-in_err-accepted-clause-fault : goal.returns-in_err-accepted-clause-fault
returns-in_err-accepted-clause-fault c =
    let told = err_from_is_err_and c.from_residual.result c.from_residual.ensures.1 in
    rw (told.1, told.2) (c.in_err-accepted.ensures.fault c.args.costs.now)

pub index_of-requires-clause-prices : goal.index_of-requires-clause-prices
index_of-requires-clause-prices c =
    let is = c.in_ok-accepted.ensures.accepted c.args.costs.now in
    omega (
      arith,
      is.fits.shape.0,
      ap (λ list. length list) is.numbers.capacities,
      length-map c.args.instance.now.servers (λ (server : Server). server.capacity),
    )

pub index_of-requires-clause-host_prices : goal.index_of-requires-clause-host_prices
index_of-requires-clause-host_prices c =
    let is = c.in_ok-accepted.ensures.accepted c.args.costs.now in
    omega (
      arith,
      is.fits.shape.1,
      ap (λ list. length list) is.numbers.limits,
      length-map c.args.instance.now.hosts (λ (host : Host). host.limit),
    )

pub begin-requires-clause-accepted : goal.begin-requires-clause-accepted
begin-requires-clause-accepted c = c.in_ok-accepted.ensures.accepted c.args.costs.now

pub invariant_of-result : goal.invariant_of-result
invariant_of-result c =
    let at = service_of c.args.costs.now c.args.instance.now in
    let plan = c.args.plan.now in
    let is = c.in_ok-accepted.ensures.accepted c.args.costs.now in
    let begun = c.in_ok-holding.ensures in
    let of_service : IsOfService at c.new.result =
    record {
      service = is.service;
      costs = c.len-rows.ensures.rows;
      costs_are = c.new.ensures.costs;
      sites_are = c.new.ensures.sites ∙ c.sites.ensures.sites;
      regions = rw c.new.ensures.regions tt;
    } in (
      index_is at plan c.args.front.fronts c.args.front.number c.in_ok-holding.holding c.in_ok-index.index begun
          is.within is.fits.shape.0 (rw is.numbers.server_hosts at c.in_ok-index.ensures.extras)
          c.in_ok-index.ensures.classes c.in_ok-index.ensures.firsts_many c.in_ok-index.ensures.firsts,
      rw begun.service of_service,
      rw c.new-2.ensures tt,
    )

pub returns-clause-fits : goal.returns-clause-fits
returns-clause-fits c = (c.in_ok-accepted.ensures.accepted c.args.costs.now).fits
