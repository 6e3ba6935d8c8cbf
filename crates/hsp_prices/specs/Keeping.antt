-- The plans of kinds, spread over their rows.
use Rattle.std.specs.Prelude.{ℕ}
use Rattle.hsp_check.specs.Network.{Network, IsNetwork}
use Rattle.hsp_check.specs.Plan.{Plan, Feasible}
use Rattle.hsp_prices.specs.Kinds.{AreKinds, HasOneArcASite, IsSpread}

-- for a feasible plan of the kinds there is one of the rows, in whole numbers, with the same cost and loads; for a best
-- one a best one
abbrev pub KindsSpreadPlans : Type 0
KindsSpreadPlans =
    (n m : Network) (kind : ℕ → ℕ) → IsNetwork n → IsNetwork m → AreKinds n m kind → HasOneArcASite m → (y : Plan)
    → Feasible m y → (x : Plan) × IsSpread n m kind y x
