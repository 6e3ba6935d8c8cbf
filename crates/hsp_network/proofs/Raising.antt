-- Raised prices.
use Rattle.std.proofs.Common.{◌≡◌, ℕ, ◌<◌, true, false, length, slice_index, ◌∙◌, arith}
use Rattle.hsp_network.specs.Residual.{AreOptimal, Flow, Arcs, Sound}
use Rattle.hsp_network.specs.Residual.{nodes}

-- a flow is sound under prices that are the same at each node
pub sound_same : (n : Arcs) (f f' : Flow) (price price' : ℕ → ℕ) → 0 < nodes n → Sound n f price →
    f'.flows.now ≡ f.flows.now → f'.residual_capacity.now ≡ f.residual_capacity.now → f'.excess.now ≡ f.excess.now →
    ((v : ℕ) → v < nodes n → price' v ≡ price v) → Sound n f' price'
sound_same n f f' price price' some sound flows residual_capacity excess same = record {
  flow = record {
    flows_many = rw flows sound.flows_many;
    residual_many = rw residual_capacity sound.residual_many;
    excess_many = rw excess sound.excess_many;
    balanced = λ k l. rw (flows, residual_capacity) (sound.balanced k l);
    conserved = λ v l nz. rw (flows, excess) (sound.conserved v l nz);
    within = λ v l. rw excess (sound.within v l);
  };
  paid = pays;
  sink_free = same 0 some ∙ sound.sink_free;
}
  where
    ends_same : (k : ℕ) → k < length n.tails.now →
        (price' (slice_index n.tails.now k) ≡ price (slice_index n.tails.now k))
        × (price' (slice_index n.heads.now k) ≡ price (slice_index n.heads.now k))
    ends_same k l = (same _ (n.graph.tails_in k l), same _ (omega (arith, n.graph.tails_in k l, n.graph.down k l)))

    pays : AreOptimal n f' price'
    pays k true l wide =
        omega (arith, sound.paid k true l (rw residual_capacity at wide), (ends_same k l).0, (ends_same k l).1)
    pays k false l wide = omega (arith, sound.paid k false l (rw flows at wide), (ends_same k l).0, (ends_same k l).1)
