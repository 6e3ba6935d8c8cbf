use Rattle.std.proofs.Common.{rules}
use Rattle.hsp_network.specs.Problem.{problem_of}
use Rattle.hsp_network.proofs.Balancing.{balanced}
use Rattle.hsp_network.proofs.accept.is_balanced.Goals as goal

pub returns : goal.returns
returns c holds =
    let priced = rw c.in-Some.is at c.in_ok-sums.ensures.priced in
    let sums = rw c.in-Some.is at c.in_ok-sums.ensures.sums in
    let hosted = rw (c.in-Some-2.is, c.deref-3.ensures.value) at c.in_ok-hosted.ensures.sums in
    let hosts = rw c.in-Some-2.is at c.in_ok-hosted.ensures.len in
    let kept =
    rw (c.deref-4.ensures.value, c.deref-5.ensures.value, c.deref-6.ensures.value) at (c.are_kept.ensures holds) in
    balanced (problem_of c.args.network.now) c.args.network.now.ends c.args.plan.now c.requires.lengths c.args.paid.now
    _ _ _
    (search rules) (search rules)
    (rw c.deref.ensures.value at sums.loads) hosted
    (rw c.deref.ensures.value at sums.sent) kept c.requires.paid
    (record {
      below = λ k l. rw c.deref-2.ensures.value at (priced k l).below;
      used = λ k l. rw (c.deref-2.ensures.value, c.deref.ensures.value) at (priced k l).used;
    })
