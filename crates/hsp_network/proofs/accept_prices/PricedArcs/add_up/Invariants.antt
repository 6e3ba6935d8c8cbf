use Rattle.std.proofs.Common.{◌≡◌, ℕ, ◌<◌, length, slice_index}
use Rattle.hsp_network.specs.Sums.{carried}
use Rattle.hsp_network.specs.Priced.{IsPriced}
use Rattle.hsp_network.proofs.accept_prices.PricedArcs.add_up.Given as goal

abbrev pub invariant-loop-arc : goal.invariant-loop-arc
invariant-loop-arc l = record {
  priced : (k : ℕ) → k < l.arc → IsPriced l.self k;
  sent : (i : ℕ) → i < length l.sent → slice_index l.sent i ≡ carried l.self.sources.now l.self.flows.now l.arc i;
  loads : (j : ℕ) → j < length l.loads → slice_index l.loads j ≡ carried l.self.servers.now l.self.flows.now l.arc j;
}
