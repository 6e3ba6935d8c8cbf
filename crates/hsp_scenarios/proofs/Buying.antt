-- What sets of sources show of purchases.
use Rattle.std.proofs.Common.{◌≡◌, ℕ, ◌+◌, ◌*◌, ◌<◌, ◌≤◌, ◌∙◌, inl, inr, Bool, List, Option, Some, length, sum_by}
use Rattle.std.proofs.Common.{slice_index, slice_index_or, is_none, min, refl, ap, arith, mul_comm, mul-zero}
use Rattle.std.proofs.Common.{mul-le-mul_left}
use Rattle.std.proofs.lemmas.Bool.{cases_lt}
use Rattle.hsp_transport.specs.Network.{IsNetwork}
use Rattle.hsp_transport.specs.Changes.{with_numbers}
use Rattle.hsp_transport.specs.Cut.{capacity_of, demand_of, reached_capacity}
use Rattle.hsp_transport.specs.Flow.{is_on}
use Rattle.hsp_transport.specs.Sums.{sum_below}
use Rattle.hsp_transport.proofs.Duality.{cut_shows_none, split_host}
use Rattle.hsp_transport.proofs.Rowwise.{same_by, sum_below_times, turned, when}
use Rattle.hsp_transport.proofs.Summing.{sum_below_add, sum_below_le, sum_below_same, sum_by_le_all, sum_by_times}
use Rattle.hsp_scenarios.specs.Purchases.{IsServed, Lack, Purchase, SetsShowLeast, lacking}
use Rattle.hsp_scenarios.specs.Purchases.{may_help, weight_at, weighed}

module _ (host_of : ℕ → Option ℕ) (limits : List ℕ) (count : ℕ)
    (hosts : (j h : ℕ) → j < count → host_of j ≡ Some h → h < length limits) where
  -- the numbers of servers whose host passes a test, added up
  abbrev where_host : (Option ℕ → Bool) → (ℕ → ℕ) → ℕ
  where_host test f = sum_below count (λ j. when (test (host_of j)) (f j))

  -- the numbers of all servers, those on each host up to its limit
  abbrev room : (ℕ → ℕ) → ℕ
  room f =
      where_host is_none f
      + sum_below (length limits) (λ h. min (slice_index limits h) (where_host (λ o. is_on o h) f))

  -- where each number is no more than two others, so are the sums
  no_more : (test : Option ℕ → Bool) (f e g : ℕ → ℕ) → ((j : ℕ) → j < count → f j ≤ e j + g j)
      → where_host test f ≤ where_host test e + where_host test g
  no_more test f e g less =
      let of = λ (v : ℕ → ℕ) (j : ℕ). when (test (host_of j)) (v j) in
      let terms : where_host test f ≤ sum_below count (λ j. of e j + of g j) =
      sum_below_le count _ _ (λ j l. grind (arith, less j l)) in
      omega (arith, sum_below_add count (of e) (of g))

  -- what is added at servers adds no more than that in all
  more_room : (f e g : ℕ → ℕ) → ((j : ℕ) → j < count → f j ≤ e j + g j) → room f ≤ room e + sum_below count g
  more_room f e g less =
      let on : (ℕ → ℕ) → ℕ → ℕ = λ v h. where_host (λ o. is_on o h) v in
      let capped : (ℕ → ℕ) → ℕ → ℕ = λ v h. min (slice_index limits h) (on v h) in
      let hosted : sum_below (length limits) (capped f) ≤ sum_below (length limits) (λ h. capped e h + on g h) =
      sum_below_le (length limits) _ _ (λ h l. omega (arith, no_more (λ o. is_on o h) f e g less)) in
      omega (
        arith,
        no_more is_none f e g less,
        sum_below_add (length limits) (capped e) (on g),
        split_host host_of g count (length limits) hosts,
      )

module _ {A : Type 0} (site : A → ℕ) (servers : ℕ) (bought : Purchase) where
  -- what was bought where it may help a set
  abbrev helping : Lack A → ℕ → ℕ
  helping l j = when (may_help l j) (bought j)

  -- a purchase that serves a loss makes good what a set lacks
  makes_good : (l : Lack A) → IsServed site servers bought l.loss → lacking l ≤ sum_below servers (helping l)
  makes_good l served =
      let n = l.loss.left in
      let own = served.serves in
      let m = with_numbers n n.demands own.rooms n.limits in
      let count : length own.rooms ≡ length n.capacities = own.many in
      let hosts : (j h : ℕ) → j < length own.rooms → n.host_of j ≡ Some h → h < length n.limits =
      λ j h inside on. served.network.hosts j h (omega arith) on in
      let network : IsNetwork m =
      record { sources = served.network.sources; servers = rw count served.network.servers; hosts = hosts } in
      let fits : demand_of n l.set ≤ capacity_of m l.set = elim (cases_lt (capacity_of m l.set) (demand_of n l.set)) [
        | inl short ↦ absurd (cut_shows_none m network l.set short _ own.feasible.flow)
        | inr enough ↦ enough
      ] in
      let more : capacity_of m l.set
      ≤ room n.host_of n.limits (length own.rooms) hosts (reached_capacity n l.set)
      + sum_below (length own.rooms) (helping l) =
      more_room n.host_of n.limits (length own.rooms) hosts (reached_capacity m l.set) (reached_capacity n l.set)
      (helping l)
      (λ j inside. grind (arith, own.bounds j (omega arith))) in
      let before : room n.host_of n.limits (length own.rooms) hosts (reached_capacity n l.set) ≡ capacity_of n l.set =
      rw count refl in
      let all : sum_below (length own.rooms) (helping l) ≡ sum_below servers (helping l) =
      ap (λ c. sum_below c (helping l)) (count ∙ served.many) in
      omega arith

  -- what was bought at a server, as often as the sets weigh that it may help
  by_server : (lacks : List (Lack A)) →
      sum_by (λ l. l.weight * sum_below servers (helping l)) lacks
      ≡ sum_below servers (λ j. bought j * weight_at lacks j)
  by_server lacks =
      same_by _ _ lacks (λ l. sum_below_times servers l.weight (helping l))
      ∙ turned (λ j l. l.weight * helping l j) lacks servers
      ∙ sum_below_same servers _ _ (λ j inside.
      same_by _ _ lacks (λ l. other_way l.weight (bought j) (may_help l j))
      ∙ sum_by_times (bought j) (λ l. when (may_help l j) l.weight) lacks)
    where
      other_way : (v w : ℕ) (t : Bool) → v * when t w ≡ w * when t v
      other_way v w t = grind (arith, mul_comm v w, mul-zero v, mul-zero w)

-- lacks are made good by what was bought, server by server
pub sets_show_least : (A : Type 0) → SetsShowLeast A
sets_show_least A site unit servers lacks bought served light =
    let enough : weighed lacks ≤ sum_by (λ l. l.weight * sum_below servers (helping site servers bought l)) lacks =
    sum_by_le_all _ _ lacks
    (λ k d inside.
    let l = slice_index_or lacks k d in
    mul-le-mul_left l.weight (makes_good site servers bought l (served k d inside))) in
    let most : sum_below servers (λ j. bought j * weight_at lacks j) ≤ sum_below servers (λ j. unit * bought j) =
    sum_below_le servers _ _
    (λ j inside. omega (arith, mul-le-mul_left (bought j) (light j inside), mul_comm (bought j) unit)) in
    omega (arith, by_server site servers bought lacks, sum_below_times servers unit bought)
