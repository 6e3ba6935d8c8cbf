-- One network at several counts. A plan serves smaller demands, too. A short set stays short at greater ones.
use Rattle.std.specs.Prelude.{◌≡◌, ℕ, ◌≤◌, Bool, List, length}
use Rattle.hsp_transport.specs.Lists.{AreWithin}
use Rattle.hsp_transport.specs.Network.{Network, IsNetwork}
use Rattle.hsp_transport.specs.Changes.{with_numbers}
use Rattle.hsp_transport.specs.Plans.{Feasible, Plan}
use Rattle.hsp_transport.specs.Kinds.{HasOneArcASite}
use Rattle.hsp_transport.specs.Cut.{IsShort}

-- the same network, where the sources demand something else
abbrev pub asking : {A : Type 0} → Network A → List ℕ → Network A
asking n demands = with_numbers n demands n.capacities n.limits

-- as many counts, none of them greater
pub record AreNoGreater (counts others : List ℕ) : Type 0 where
  pub many : length counts ≡ length others
  pub each : AreWithin others counts

-- the first plan sends no more from any source to any site
abbrev pub IsWithin : Plan → Plan → Type 0
IsWithin x y = (i s : ℕ) → x i s ≤ y i s

-- Where there is a plan, each table of no greater demands has one within it.
abbrev pub LessFits : Type 0 → Type 0
LessFits A =
    (site : A → ℕ) (n : Network A) (demands : List ℕ) → HasOneArcASite site n → AreNoGreater demands n.demands
    → (x : Plan) → Feasible site n x → (y : Plan) × Feasible site (asking n demands) y × IsWithin y x

-- A short set of sources is short at each table of no smaller demands. None of these has a plan.
abbrev pub ShortFrom : Type 0 → Type 0
ShortFrom A =
    (site : A → ℕ) (n : Network A) (demands : List ℕ) (set : ℕ → Bool) → IsNetwork n → AreNoGreater n.demands demands
    → IsShort n set → IsShort (asking n demands) set × ((x : Plan) → Feasible site (asking n demands) x → ⊥)
