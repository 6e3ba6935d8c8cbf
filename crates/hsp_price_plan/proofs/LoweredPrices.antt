-- Prices of sources are lowered arc by arc.
use Rattle.std.proofs.Common.{ℕ, List, arith}
use Rattle.hsp_network.specs.Network.{Transport}
use Rattle.hsp_price_plan.specs.Pressing.{AreLowered}

-- no arc lowers none
pub none_lowered : (net : Transport) (sums old : List ℕ) → AreLowered net 0 sums old old
none_lowered net sums old = record {
  many = omega arith;
  low = λ i l. omega arith;
  below = λ k l. absurd (omega (arith, l));
  most = λ i n l le each. le;
}
