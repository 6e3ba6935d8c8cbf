-- What prices of portions, and of the plan that they are joined to, show: a nearest plan.
use Rattle.std.proofs.Common.{◌≡◌, ℕ, ◌+◌, ◌*◌, ◌<◌, ◌≤◌, inl, inr, List, length, ap, arith, mul-add, mul-one}
use Rattle.std.proofs.Common.{mul-le-mul_left}
use Rattle.std.proofs.lemmas.Bool.{cases_lt}
use Rattle.hsp_transport.specs.Plans.{Best, Feasible, Plan, planned}
use Rattle.hsp_transport.specs.Prices.{HasPrices}
use Rattle.hsp_transport.specs.Sums.{sum_below}
use Rattle.hsp_transport.proofs.Duality.{prices_show_cheapest}
use Rattle.hsp_transport.proofs.Summing.{sum_below_le}
use Rattle.hsp_scenarios.specs.Moves.{Nearest, Today, moved}
use Rattle.hsp_scenarios.specs.Portions.{ArePortions, Portions, joined, sent_away}
use Rattle.hsp_scenarios.specs.Nearest.{HeavyWeightsShowNearest, PricesShowNearest, PricesWeighMoves, cost_of}
use Rattle.hsp_scenarios.proofs.Joining.{joined_plans}
use Rattle.hsp_scenarios.proofs.Splitting.{split_plans}

module _ {A : Type 0} (t : Today A) (p : Portions A) (are : ArePortions t p)
    (y : Plan) (u q r : List ℕ) (feasible : Feasible t.site p.network y)
    (prices : HasPrices p.network (planned t.site p.network y) u q r) where
  abbrev x : Plan
  x = joined p y

  abbrev cost : Plan → ℕ
  cost = cost_of t.site t.network

  -- no plan costs less than the portions do
  bound : (other : Plan) → Feasible t.site t.network other →
      p.weight * cost x + sent_away t p y ≤ p.weight * cost other + moved t other
  bound other plan =
      let parts = split_plans A t p are other plan in
      let least =
      (prices_show_cheapest p.network are.portions (planned t.site p.network y) u q r feasible.flow prices).0
      (planned t.site p.network parts.0) parts.1.feasible.flow in
      omega (arith, least, parts.1.cost, (joined_plans A t p are y feasible).cost)

  -- the joined plan is feasible
  plan : Feasible t.site t.network x
  plan = (joined_plans A t p are y feasible).feasible

  -- what goes away from home is what moves
  away_is_moved : sent_away t p y ≡ moved t x
  away_is_moved = omega (arith, bound x plan, (joined_plans A t p are y feasible).moves)

  -- of the plans that cost the same it moves the fewest
  nearest : Best t.site t.network x → Nearest t x
  nearest best = record {
    best = best;
    fewest = λ other its.
        let same : cost x ≡ cost other = omega (arith, best.least other its.feasible, its.least x plan) in
        omega (arith, ap (λ c. p.weight * c) same, bound other its.feasible, away_is_moved);
  }

  -- all that the old plan sends
  abbrev all_old : ℕ
  all_old = sum_below (length t.network.demands) (λ i. sum_below t.sites (t.old i))

  -- a weight above all that may move leaves no plan that costs less
  heavy : all_old < p.weight → Best t.site t.network x
  heavy more = record {
    feasible = plan;
    least = λ other its. elim (cases_lt (cost other) (cost x)) [
      | inl less ↦
          let most : moved t other ≤ all_old =
          sum_below_le (length t.network.demands) _ _ (λ i l. sum_below_le t.sites _ _ (λ s m. omega arith)) in
          let more-cost : cost other + 1 ≤ cost x = omega arith in
          let step : p.weight * cost other + p.weight ≤ p.weight * cost x =
          omega (
            arith,
            mul-le-mul_left p.weight more-cost,
            mul-add p.weight (cost other) 1,
            mul-one p.weight,
          ) in
          absurd (omega (arith, bound other its))
      | inr enough ↦ enough
    ];
  }

-- no plan costs less, moves included
pub prices_weigh_moves : (A : Type 0) → PricesWeighMoves A
prices_weigh_moves A t p are y u q r feasible prices other its =
    omega (
      arith,
      bound t p are y u q r feasible prices other its,
      away_is_moved t p are y u q r feasible prices,
    )

-- the joined plan is nearest
pub prices_show_nearest : (A : Type 0) → PricesShowNearest A
prices_show_nearest A t p are y u q r v w z feasible prices own =
    let join = joined_plans A t p are y feasible in
    let best : Best t.site t.network (joined p y) = record {
      feasible = join.feasible;
      least = λ other its. (prices_show_cheapest t.network are.network _ v w z join.feasible.flow own).0 _ its.flow;
    } in (
      nearest t p are y u q r feasible prices best,
      omega (arith, join.cost, away_is_moved t p are y u q r feasible prices),
    )

-- and so it is by a heavy weight
pub heavy_weights_show_nearest : (A : Type 0) → HeavyWeightsShowNearest A
heavy_weights_show_nearest A t p are more y u q r feasible prices =
    nearest t p are y u q r feasible prices (heavy t p are y u q r feasible prices more)
