-- What a set can reach, by the rooms of servers and of hosts.
use Rattle.std.proofs.Common.{◌≡◌, ℕ, ◌+◌, ◌<◌, ◌∙◌, Bool, List, Option, length, slice_index, is_none, min}
use Rattle.std.proofs.Common.{if◌then◌else◌, ap, ap₂, sym, arith}
use Rattle.hsp_transport.specs.Cut.{capacity_of, reached_capacity}
use Rattle.hsp_transport.specs.Lists.{AreHosted, free_sum, host_in, hosted, hosted_sum, is_on}
use Rattle.hsp_transport.specs.Network.{Network}
use Rattle.hsp_transport.proofs.Summing.{sum_below_same}

module _ {A : Type 0} (n : Network A) (hosts : List (Option ℕ)) (same : n.host_of ≡ host_in hosts)
    (hosts_many : length hosts ≡ length n.capacities)
    (set : ℕ → Bool) (rooms sums : List ℕ) (sums_many : length sums ≡ length n.limits)
    (rooms_are : (j : ℕ) → j < length n.capacities → slice_index rooms j ≡ reached_capacity n set j)
    (sums_are : AreHosted hosts rooms sums) where
  -- the host of a server, and its room
  room_when : (test : Option ℕ → Bool) (j : ℕ) → j < length n.capacities
      → (if test (host_in hosts j) then slice_index rooms j else 0)
      ≡ (if test (n.host_of j) then reached_capacity n set j else 0)
  room_when test j l = ap₂ (λ o room. if test o then room else 0) (sym (ap (λ of. of j) same)) (rooms_are j l)

  -- the sums of a cut add up to the capacity of its set
  pub capacity_is : free_sum hosts rooms (length hosts) + hosted_sum n.limits sums (length n.limits) ≡ capacity_of n set
  capacity_is = ap₂ (λ a b. a + b)
      (ap (free_sum hosts rooms) hosts_many ∙ sum_below_same (length n.capacities) _ _ (room_when is_none))
      (sum_below_same (length n.limits) _ _ (λ h l. ap (min (slice_index n.limits h))
      (sums_are h (omega arith) ∙ ap (λ c. hosted hosts rooms c h) hosts_many
      ∙ sum_below_same (length n.capacities) _ _ (room_when (λ o. is_on o h)))))
