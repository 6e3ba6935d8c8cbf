-- Plans of rows of any number by classes. Of the arcs of each row some are kept, as those whose reduced cost is 0. Rows
-- with the same kept arcs are one class, and a plan says what each class sends, not each row.
use Rattle.std.specs.Prelude.{ℕ, Bool, List}
use Rattle.hsp_check.specs.Network.{Network, IsNetwork}
use Rattle.hsp_check.specs.Plan.{Plan, Best, Feasible}
use Rattle.hsp_check.specs.Prices.{Prices}
use Rattle.hsp_prices.specs.Kinds.{AreAlikeIn, AreKinds, ArePricesOfKinds, HasOneArcASite}
use Rattle.hsp_prices.specs.Bounds.{HasNoNegativeReducedCost}
use Rattle.hsp_prices.specs.Kept.{kept}

abbrev pub Keep : Type 0
Keep = ℕ → ℕ → Bool

-- The rows of m are the classes of those of n, by the arcs that are kept. The plan y of the classes has the prices v,
-- p and q. The rows' prices u are those of their classes, by which no reduced cost is negative.
pub record IsPlanByClasses (n m : Network) (keep : Keep) (class : ℕ → ℕ) (y : Plan) (u v p q : List ℕ) : Type 0 where
  pub classes : AreKinds (kept n keep) m class
  pub one : HasOneArcASite m
  pub feasible : Feasible m y
  pub prices : Prices m y v p q
  pub of_classes : ArePricesOfKinds n class u v
  pub reduced : HasNoNegativeReducedCost n 1 u p q

-- then some plan of the rows costs the same, brings the same to each server and each host, and is best
abbrev pub ClassesShowBest : Type 0
ClassesShowBest =
    (n m : Network) (keep : Keep) (class : ℕ → ℕ) (y : Plan) (u v p q : List ℕ) → IsNetwork n → IsNetwork m
    → IsPlanByClasses n m keep class y u v p q → (x : Plan) × Best n x × AreAlikeIn n m x y
