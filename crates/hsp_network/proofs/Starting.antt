-- No flow, with the least cost of a node's arcs as its price.
use Rattle.std.proofs.Common.{◌≡◌, ℕ, ◌+◌, ◌*◌, ◌++◌, ◌∷◌, [], ap, length-append, ◌<◌, ◌≤◌, mul-le-mul_right, inl, inr}
use Rattle.std.proofs.Common.{true, false, List, length, slice_index, refl, ◌∙◌, arith}
use Rattle.hsp_network.proofs.Appending.{longer}
use Rattle.hsp_network.specs.Sums.{only}
use Rattle.hsp_network.specs.Through.{through}
use Rattle.hsp_network.specs.InitialPotentials.{AreInitialPotentials, LeastCost}
use Rattle.hsp_network.specs.Residual.{AreOptimal, Flow, Arcs, Sound, nodes}
use Rattle.hsp_network.proofs.AddingUp.{only_zero}
use Rattle.hsp_network.proofs.Totals.{sum_below_zero, through_is}

module _ (n : Arcs) (f : Flow)
    (fm : length f.flows.now ≡ length n.tails.now) (rm : length f.residual_capacity.now ≡ length n.tails.now)
    (um : length f.excess.now ≡ nodes n)
    (flows-zero : (k : ℕ) → k < length n.tails.now → slice_index f.flows.now k ≡ 0)
    (residual_capacity-all : (k : ℕ) → k < length n.tails.now
    → slice_index f.residual_capacity.now k ≡ slice_index n.capacities.now k)
    (price-low : (k : ℕ) → k < length n.tails.now
    → slice_index f.price.now (slice_index n.tails.now k) ≤ slice_index n.costs.now k)
    (price-sink : slice_index f.price.now 0 ≡ 0)
    (excess-all : (v : ℕ) → v < nodes n → slice_index f.excess.now v ≡ slice_index n.supplies.now v) where
  -- without flow nothing goes through a node
  through_none : (ends : List ℕ) (v : ℕ) → through ends f.flows.now v ≡ 0
  through_none ends v =
      through_is ends f.flows.now v
      ∙ sum_below_zero (length f.flows.now) (λ k. only (slice_index ends k) v (slice_index f.flows.now k))
      (λ k l. ap (only (slice_index ends k) v) (flows-zero k (omega arith)) ∙ only_zero (slice_index ends k) v)

  -- no flow with the first prices is sound
  pub sound_start : Sound n f (λ v. slice_index f.price.now v)
  sound_start = record {
    flow = record {
      flows_many = fm;
      residual_many = rm;
      excess_many = um;
      balanced = λ k l. omega (arith, flows-zero k l, residual_capacity-all k l);
      conserved = λ v l nz. omega (arith, through_none n.tails.now v, through_none n.heads.now v, excess-all v l);
      within = λ v l. omega (arith, excess-all v l);
    };
    paid = pays;
    sink_free = price-sink;
  }
    where
      pays : AreOptimal n f (λ v. slice_index f.price.now v)
      pays k true l wide = omega (arith, price-low k l)
      pays k false l wide = absurd (omega (arith, flows-zero k l))

-- the price of one more node
pub first_more : (n : ℕ) (tails costs price : List ℕ) (least : ℕ) → AreInitialPotentials n tails costs price
    → LeastCost tails costs n least →
    AreInitialPotentials (n + 1) tails costs (price ++ least ∷ [])
first_more n tails costs price least prices it = record {
  many = omega (arith, prices.many, length-append price (least ∷ []));
  each = λ v l. elim (longer price least v (omega (arith, l, prices.many, length-append price (least ∷ [])))) [
    | inl old ↦ rw old.1 (prices.each v (omega (arith, old.0, prices.many)))
    | inr new ↦ let is : v ≡ n = omega (arith, new.0, prices.many) in rw new.1 (rw is it)
  ];
}

module _ (n : Arcs) (price : List ℕ) (prices : AreInitialPotentials (nodes n) n.tails.now n.costs.now price) where
  -- the first price of a node is no more than the cost of any arc from it
  pub first_low : (k : ℕ) → k < length n.tails.now
      → slice_index price (slice_index n.tails.now k) ≤ slice_index n.costs.now k
  first_low k l = (prices.each (slice_index n.tails.now k) (n.graph.tails_in k l)).below k l refl

  -- the first price of the sink is zero
  pub first_sink : 0 < nodes n → slice_index price 0 ≡ 0
  first_sink some = elim (prices.each 0 some).attained [
    | inl none ↦ none.1
    | inr it ↦ absurd (omega (arith, it.2, n.graph.down it.0 it.1))
  ]

  -- the first prices are within the bound
  pub first_limit : (v : ℕ) → v < nodes n → slice_index price v ≤ n.price_bound
  first_limit v l =
      let one : 1 * n.greatest_cost ≤ nodes n * n.greatest_cost = let h : 1 ≤ nodes n = omega arith in
      mul-le-mul_right n.greatest_cost h in
      elim (prices.each v l).attained [
        | inl none ↦ omega (arith, none.1)
        | inr it ↦ omega (arith, it.3, n.scale.dear it.0 it.1, n.scale.limit_is, one)
      ]
