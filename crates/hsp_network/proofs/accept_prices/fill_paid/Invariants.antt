use Rattle.std.proofs.Common.{◌≡◌, ℕ, ◌+◌, ◌<◌, None, slice_index, slice_index_or}
use Rattle.hsp_transport.specs.Prices.{at_host}
use Rattle.hsp_network.proofs.accept_prices.fill_paid.Given as goal

abbrev pub invariant-loop-server : goal.invariant-loop-server
invariant-loop-server l =
    (j : ℕ) → j < l.server
    → slice_index l.paid j
    ≡ slice_index l.server_prices j + at_host (slice_index_or l.hosts j None) (λ h. slice_index l.host_prices h)
