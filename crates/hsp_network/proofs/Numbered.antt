-- The sums of a network by columns run over the numbers of its arcs.
use Rattle.std.proofs.Common.{◌≡◌, ℕ, ◌==◌, ◌&&◌, Bool, length, slice_index}
use Rattle.hsp_network.specs.Network.{Transport, numbered}
use Rattle.hsp_transport.specs.Cut.{reaches}
use Rattle.hsp_transport.specs.Flow.{load, sent}
use Rattle.hsp_transport.specs.Sums.{any_below, only, sum_below}
use Rattle.hsp_transport.proofs.Places.{any_number, sum_numbers}

module _ (net : Transport) where
  -- what a source sends is a sum over the numbers of arcs
  pub sent_numbers : (flow : ℕ → ℕ) (i : ℕ)
      → sent (numbered net) flow i ≡ sum_below (length net.sources) (λ k. only (slice_index net.sources k) i (flow k))
  sent_numbers flow i = sum_numbers (λ k. only (slice_index net.sources k) i (flow k)) (length net.sources)

  -- what a server takes is a sum over the numbers of arcs
  pub load_numbers : (flow : ℕ → ℕ) (j : ℕ)
      → load (numbered net) flow j ≡ sum_below (length net.sources) (λ k. only (slice_index net.servers k) j (flow k))
  load_numbers flow j = sum_numbers (λ k. only (slice_index net.servers k) j (flow k)) (length net.sources)

  -- whether a set reaches a server is asked over the numbers of arcs
  pub reaches_numbers : (set : ℕ → Bool) (j : ℕ)
      → reaches (numbered net) set j
      ≡ any_below (length net.sources) (λ k. set (slice_index net.sources k) && (slice_index net.servers k == j))
  reaches_numbers set j =
      any_number (λ k. set (slice_index net.sources k) && (slice_index net.servers k == j)) (length net.sources)
