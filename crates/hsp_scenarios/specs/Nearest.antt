-- Plans of portions beside plans of their sources, and what prices show of both: a nearest plan (weak duality and
-- complementary slackness, Network Flows, section 9.4).
use Rattle.std.specs.Prelude.{◌≡◌, ℕ, ◌+◌, ◌*◌, ◌<◌, ◌≤◌, List, length}
use Rattle.hsp_transport.specs.Network.{Network}
use Rattle.hsp_transport.specs.Flow.{total_cost}
use Rattle.hsp_transport.specs.Plans.{Feasible, Plan, planned}
use Rattle.hsp_transport.specs.Prices.{HasPrices}
use Rattle.hsp_transport.specs.Kinds.{IsPooled}
use Rattle.hsp_transport.specs.Sums.{sum_below}
use Rattle.hsp_scenarios.specs.Moves.{Nearest, Today, moved}
use Rattle.hsp_scenarios.specs.Portions.{ArePortions, Portions, joined, sent_away}

-- what a plan costs
abbrev pub cost_of : {A : Type 0} → (A → ℕ) → Network A → Plan → ℕ
cost_of site n x = total_cost n (planned site n x)

-- The plan x of the sources is feasible. The plan y of portions costs what x costs, so many times, and what goes away
-- from home. No more than that is moved by x.
pub record IsJoined {A : Type 0} (t : Today A) (p : Portions A) (y x : Plan) : Type 0 where
  pub feasible : Feasible t.site t.network x
  pub cost : cost_of t.site p.network y ≡ p.weight * cost_of t.site t.network x + sent_away t p y
  pub moves : moved t x ≤ sent_away t p y

-- So it is with each feasible plan of portions and the plan that they are joined to.
abbrev pub Joined : Type 0 → Type 0
Joined A =
    (t : Today A) (p : Portions A) → ArePortions t p → (y : Plan) → Feasible t.site p.network y
    → IsJoined t p y (joined p y)

-- The plan y of portions is feasible, and is joined to x. It sends away from home exactly what x moves.
pub record IsSplit {A : Type 0} (t : Today A) (p : Portions A) (x y : Plan) : Type 0 where
  pub feasible : Feasible t.site p.network y
  pub joins : IsPooled p.network t.network p.source_of y x
  pub cost : cost_of t.site p.network y ≡ p.weight * cost_of t.site t.network x + moved t x
  pub away : sent_away t p y ≡ moved t x

-- Each feasible plan of the sources is split so, in whole numbers.
abbrev pub Split : Type 0 → Type 0
Split A =
    (t : Today A) (p : Portions A) → ArePortions t p → (x : Plan) → Feasible t.site t.network x
    → (y : Plan) × IsSplit t p x y

-- Let each unit that moves cost one, and each unit of cost so many. Prices of portions show that no plan costs less
-- than the joined one then.
abbrev pub PricesWeighMoves : Type 0 → Type 0
PricesWeighMoves A =
    (t : Today A) (p : Portions A) → ArePortions t p → (y : Plan) (u q r : List ℕ) → Feasible t.site p.network y
    → HasPrices p.network (planned t.site p.network y) u q r → (other : Plan) → Feasible t.site t.network other →
    p.weight * cost_of t.site t.network (joined p y) + moved t (joined p y)
    ≤ p.weight * cost_of t.site t.network other + moved t other

-- Prices of portions and prices of the joined plan show that it is a nearest one. The portions cost what it costs, so
-- many times, and what it moves.
abbrev pub PricesShowNearest : Type 0 → Type 0
PricesShowNearest A =
    (t : Today A) (p : Portions A) → ArePortions t p → (y : Plan) (u q r v w z : List ℕ)
    → Feasible t.site p.network y → HasPrices p.network (planned t.site p.network y) u q r
    → HasPrices t.network (planned t.site t.network (joined p y)) v w z →
    Nearest t (joined p y)
    × (cost_of t.site p.network y ≡ p.weight * cost_of t.site t.network (joined p y) + moved t (joined p y))

-- Where a unit of cost weighs more than all that the old plan sends, prices of portions show it without others.
abbrev pub HeavyWeightsShowNearest : Type 0 → Type 0
HeavyWeightsShowNearest A =
    (t : Today A) (p : Portions A) → ArePortions t p
    → sum_below (length t.network.demands) (λ i. sum_below t.sites (t.old i)) < p.weight
    → (y : Plan) (u q r : List ℕ) → Feasible t.site p.network y
    → HasPrices p.network (planned t.site p.network y) u q r → Nearest t (joined p y)
