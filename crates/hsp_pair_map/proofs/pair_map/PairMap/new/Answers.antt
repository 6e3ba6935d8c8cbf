use Rattle.std.proofs.Common.{◌≡◌, ℕ, length, replicate, arith}
use Rattle.std.proofs.lemmas.List.{get_or-replicate, length-replicate}
use Rattle.hsp_pair_map.specs.Chains.{last_of}
use Rattle.hsp_pair_map.proofs.pair_map.PairMap.new.Goals as goal

pub invariant_of-result : goal.invariant_of-result
unfolding last_of
invariant_of-result c =
    let zeros : c.in_ok-lasts.lasts.items ≡ replicate c.args.buckets 0 =
    c.in_ok-lasts.ensures.items_if_clones_equal (λ y same. same) in
    let many : length {A = ℕ} (replicate c.args.buckets 0) ≡ c.args.buckets = length-replicate c.args.buckets 0 in
    rw (c.new.ensures.items, c.new-2.ensures.items, zeros, c.new-3.ensures.empty) (record {
      bucket = λ k. 0;
      some = omega (arith, many, c.requires);
      buckets = omega (arith, many, c.ranges.buckets.fits);
      few = omega arith;
      each = λ k l. absurd (omega (arith, l));
      last = λ b l. get_or-replicate c.args.buckets b 0 0 (omega (arith, many, l));
      numbers = λ p n e. cc;
    })
