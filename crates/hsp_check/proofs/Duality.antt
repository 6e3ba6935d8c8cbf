-- What prices and cuts show of plans.
use Rattle.hsp_check.specs.Claims.{PricesShowBest, ShortShowsNone}
use Rattle.hsp_check.specs.Network.{transport}
use Rattle.hsp_check.specs.Plan.{planned}
use Rattle.hsp_transport.proofs.Duality.{cut_shows_none, prices_show_cheapest}

-- a plan whose prices hold is best
pub prices_show_best : PricesShowBest
prices_show_best n x u p q is feasible prices =
    let shown = prices_show_cheapest (transport n) is (planned x) u p q feasible.flow prices in
    (record { feasible = feasible; least = λ y other. shown.0 (planned y) other.flow }, shown.1)

-- a set that is short shows that no plan is feasible
pub short_shows_none : ShortShowsNone
short_shows_none n rows is more x feasible = cut_shows_none (transport n) is rows more (planned x) feasible.flow
