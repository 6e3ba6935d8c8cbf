-- Plans near an old one: how much they move from where the old plan sends it.
use Rattle.std.specs.Prelude.{ℕ, ◌-◌, ◌≤◌, length}
use Rattle.hsp_transport.specs.Network.{Network}
use Rattle.hsp_transport.specs.Plans.{Best, Plan}
use Rattle.hsp_transport.specs.Sums.{sum_below}

-- Today's network, whose arcs lead to sites, and an old plan. The old plan may send where no arc leads today.
pub record Today (A : Type 0) : Type 0 where
  pub network : Network A
  pub site : A → ℕ
  pub sites : ℕ
  pub old : Plan

-- what the old plan sends from all sources to all sites, and the new plan sends there no longer
abbrev pub moved : {A : Type 0} → Today A → Plan → ℕ
moved t x = sum_below (length t.network.demands) (λ i. sum_below t.sites (λ s. t.old i s - x i s))

-- A nearest plan is a best one, and no best plan moves less.
pub record Nearest {A : Type 0} (t : Today A) (x : Plan) : Type 0 where
  pub best : Best t.site t.network x
  pub fewest : (y : Plan) → Best t.site t.network y → moved t x ≤ moved t y
