-- A plan of portions, joined to a plan of their sources.
use Rattle.std.proofs.Common.{ℕ, ◌+◌, ◌-◌, ◌≤◌, ◌==◌, ◌∙◌, Bool, true, false, length, slice_index, sym, arith}
use Rattle.hsp_transport.specs.Plans.{Feasible, Plan}
use Rattle.hsp_transport.specs.Sums.{sum_below}
use Rattle.hsp_transport.proofs.Rowwise.{when}
use Rattle.hsp_transport.proofs.Summing.{sum_below_add, sum_below_le}
use Rattle.hsp_scenarios.specs.Moves.{Today, moved}
use Rattle.hsp_scenarios.specs.Portions.{ArePortions, Portions, at_home, joined, sent_away}
use Rattle.hsp_scenarios.specs.Nearest.{Joined}
use Rattle.hsp_scenarios.proofs.Homes.{missing_away}
use Rattle.hsp_scenarios.proofs.Carrying.{cost_joined, joined_feasible, over_all, sent_portion}

-- what the portions of a source have more than others is no less than what it has more
more_together : {A : Type 0} (p : Portions A) (y z : Plan) (i s : ℕ)
    → joined p y i s - joined p z i s ≤ joined p (λ k s. y k s - z k s) i s
more_together p y z i s =
    let of = λ (x : Plan) (k : ℕ). when (p.source_of k == i) (x k s) in
    let more = of (λ k s. y k s - z k s) in
    let less : joined p y i s ≤ sum_below (length p.network.demands) (λ k. more k + of z k) =
    sum_below_le (length p.network.demands) _ _ (λ k l. each (p.source_of k == i) (y k s) (z k s)) in
    omega (arith, sum_below_add (length p.network.demands) more (of z))
  where
    each : (t : Bool) (v w : ℕ) → when t v ≤ when t (v - w) + when t w
    each true v w = omega arith
    each false v w = omega arith

-- what moves is away from home
moves_away : {A : Type 0} (t : Today A) (p : Portions A) → ArePortions t p → (y : Plan)
    → Feasible t.site p.network y → moved t (joined p y) ≤ sent_away t p y
moves_away t p are y feasible =
    let missing : Plan = λ k s. at_home p k s - y k s in
    let here : moved t (joined p y)
    ≤ sum_below (length t.network.demands) (λ i. sum_below t.sites (joined p missing i)) =
    sum_below_le (length t.network.demands) _ _
    (λ i l. sum_below_le t.sites _ _
    (λ s m. omega (arith, are.kept i s l m, more_together p (at_home p) y i s))) in
    let there : sum_below (length p.network.demands) (λ k. sum_below t.sites (missing k)) ≤ sent_away t p y =
    sum_below_le (length p.network.demands) _ _
    (λ k l.
    missing_away t.sites (p.home_of k) (are.homes k) (slice_index p.network.demands k) (y k)
    (sym (sent_portion t p are y feasible.allowed k l) ∙ feasible.flow.met k l)) in
    omega (arith, over_all t p are missing)

-- the joined plan is a plan of the sources, at its cost
pub joined_plans : (A : Type 0) → Joined A
joined_plans A t p are y feasible = record {
  feasible = joined_feasible t p are y feasible;
  cost = cost_joined t p are y feasible;
  moves = moves_away t p are y feasible;
}
