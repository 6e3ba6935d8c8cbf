-- A plan of the rows from a plan of their classes.
use Rattle.std.proofs.Common.{◌≡◌, ℕ, ◌+◌, ◌*◌, ◌==◌, ◌∙◌, List, length, slice_index, ap, sym, arith, mul_comm}
use Rattle.hsp_transport.specs.Sums.{times}
use Rattle.hsp_transport.proofs.Summing.{sum_below_same}
use Rattle.hsp_transport.proofs.Rowwise.{when, by_kinds, sum_below_times, times_when}
use Rattle.hsp_transport.specs.Kinds.{together}
use Rattle.hsp_check.specs.Network.{Network, IsNetwork, transport}
use Rattle.hsp_check.specs.Plan.{Plan, Feasible, total}
use Rattle.hsp_check.proofs.Duality.{prices_show_best}
use Rattle.hsp_prices.specs.Kinds.{AreAlikeIn}
use Rattle.hsp_prices.proofs.KindPlans.{kinds_spread_plans}
use Rattle.hsp_prices.specs.Kept.{kept}
use Rattle.hsp_prices.specs.Classes.{ClassesShowBest, IsPlanByClasses, Keep}
use Rattle.hsp_prices.proofs.Keeping.{cost_kept, feasible_kept, host_kept, least, load_kept, network_kept}

module _ (n m : Network) (keep : Keep) (class : ℕ → ℕ) (y : Plan) (u v p q : List ℕ) (n-is : IsNetwork n)
    (m-is : IsNetwork m) (by : IsPlanByClasses n m keep class y u v p q) where
  abbrev k : Network
  k = kept n keep

  -- what the rows pay is what their classes pay
  pays : times n.demands u ≡ times m.demands v
  pays =
      sum_below_same (length n.demands) _ _
      (λ i l. ap (λ w. slice_index n.demands i * w) (by.of_classes i l)
      ∙ mul_comm (slice_index n.demands i) (slice_index v (class i)))
      ∙ by_kinds (length m.demands) class (λ c i. slice_index v c * slice_index n.demands i) (length n.demands)
      by.classes.inside
      ∙ sum_below_same (length m.demands) _ _ (λ c l.
      sum_below_same (length n.demands) _ _
      (λ i j. sym (times_when (slice_index v c) (slice_index n.demands i) (class i == c)))
      ∙ sym (sum_below_times (length n.demands) (slice_index v c) (λ i. when (class i == c) (slice_index n.demands i)))
      ∙ mul_comm (slice_index v c) (together (transport k) class (λ i. slice_index n.demands i) c)
      ∙ ap (λ d. d * slice_index v c) (sym (by.classes.demands c l)))

  module _ (x : Plan) (feasible : Feasible k x) (alike : AreAlikeIn k m x y) where
    -- the plan of the rows costs and brings what that of the classes does, over all arcs
    all_alike : AreAlikeIn n m x y
    all_alike = record {
      total = sym (cost_kept n keep x feasible) ∙ alike.total;
      load = λ j. sym (load_kept n keep x feasible j) ∙ alike.load j;
      host_load = λ h. sym (host_kept n keep x feasible h) ∙ alike.host_load h;
    }

    -- its cost is what the rows pay but for what full servers and hosts take
    sums : times n.demands u ≡ total n x + times n.capacities p + times n.limits q
    sums =
        let shown = (prices_show_best m y v p q m-is by.feasible by.prices).1 in
        let capacities : times n.capacities p ≡ times m.capacities p = ap (λ c. times c p) by.classes.capacities in
        let limits : times n.limits q ≡ times m.limits q = ap (λ c. times c q) by.classes.limits in
        omega (arith, pays, all_alike.total)

-- plans of classes give best plans of rows
pub classes_show_best : ClassesShowBest
classes_show_best n m keep class y u v p q n-is m-is by =
    let k-is = network_kept n keep n-is in
    let s = kinds_spread_plans (kept n keep) m class k-is m-is by.classes by.one y by.feasible in
    let alike = s.1.alike in
    let own = s.1.feasible in (
      s.0,
      record {
        feasible = feasible_kept n keep s.0 own;
        least =
            least n keep s.0 own n-is u p q by.reduced (sums n m keep class y u v p q n-is m-is by s.0 own alike);
      },
      all_alike n m keep class y u v p q n-is m-is by s.0 own alike,
    )
