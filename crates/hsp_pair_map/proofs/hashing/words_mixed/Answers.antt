use Rattle.std.proofs.Common.{◌≡◌, ◌+◌, suc, refl, arith}
use Rattle.hsp_pair_map.specs.Hashing.{words_mixed}
use Rattle.hsp_pair_map.proofs.hashing.words_mixed.Goals as goal

pub loop-number-init : goal.loop-number-init
unfolding words_mixed
loop-number-init c = refl

pub loop-number-preserved : goal.loop-number-preserved
unfolding words_mixed
loop-number-preserved c =
    let next : c.loop-number.number + 1 ≡ suc c.loop-number.number = omega arith in
    rw (next, c.mixed-hash.ensures, c.word_at.ensures, c.loop-number.invariant) refl
