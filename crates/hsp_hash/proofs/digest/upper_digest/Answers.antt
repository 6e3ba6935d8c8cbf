use Rattle.std.proofs.Common.{◌++◌}
use Rattle.hsp_hash.proofs.Upper.{done_with, upper_with}
use Rattle.hsp_hash.proofs.digest.upper_digest.Goals as goal

pub parts-preserved : goal.parts-preserved
parts-preserved c =
    let before = c.parts.invariant in
    let split = c.split_at.ensures in
    let part = c.split_at.result.0.now in
    let held = c.update.ensures _ before.2 in
    let upper =
    upper_with before.0 part c.set_upper.new.block c.min-count.result c.set_upper.ensures split.front_len in (
      before.0 ++ part,
      done_with _ before.0 _ part _ c.min-count.result before.1 split.front split.back,
      rw upper at held,
    )
