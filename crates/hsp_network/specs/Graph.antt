-- The arcs of a network as a graph, and the bounds by which all numbers of a run fit.
use Rattle.std.specs.Prelude.{◌≡◌, ℕ, ◌+◌, ◌*◌, ◌<◌, ◌≤◌, List, length, slice_index}

-- arcs lead down to the sink
pub record Graph (nodes : ℕ) (tails heads costs capacities supplies : List ℕ) : Type 0 where
  pub heads_many : length heads ≡ length tails
  pub costs_many : length costs ≡ length tails
  pub capacities_many : length capacities ≡ length tails
  pub supplies_many : length supplies ≡ nodes
  pub tails_in : (k : ℕ) → k < length tails → slice_index tails k < nodes
  pub down : (k : ℕ) → k < length tails → slice_index heads k < slice_index tails k

-- the arcs that leave sources cost `greatest_cost` at the most and others nothing; with no more prices than
-- `price_bound` every number fits
pub record Scale (first nodes : ℕ) (tails heads costs : List ℕ) (greatest_cost price_bound longest_arc : ℕ) :
    Type 0 where
  pub dear : (k : ℕ) → k < length tails → slice_index costs k ≤ greatest_cost
  pub free : (k : ℕ) → k < length tails → slice_index tails k < first → slice_index costs k ≡ 0
  pub low : (k : ℕ) → k < length tails → slice_index heads k < first
  pub limit_is : price_bound ≡ nodes * greatest_cost
  pub step_is : longest_arc ≡ price_bound + greatest_cost
  pub small : 2 * price_bound + longest_arc < 18446744073709551615
  pub few : nodes < 4294967296
