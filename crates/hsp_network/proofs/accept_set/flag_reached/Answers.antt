use Rattle.std.proofs.Common.{◌≡◌, length, sym, ◌∙◌, ap, arith, slice_index}
use Rattle.std.specs.Prelude.{◌&&◌, ◌==◌}
use Rattle.hsp_network.specs.Problem.{problem_of}
use Rattle.hsp_network.specs.Reached.{flag_at}
use Rattle.hsp_network.specs.Sums.{any_below}
use Rattle.hsp_network.proofs.Numbered.{reaches_numbers}
use Rattle.hsp_network.proofs.accept_set.flag_reached.Goals as goal

pub returns : goal.returns
returns c j l =
    let net = problem_of c.args.network.now in
    let all : c.loop-arc.arc ≡ length net.sources = omega (arith, c.loop-arc-test.false, c.loop-arc.auto.arc-end) in
    c.loop-arc.invariant j l
    ∙ ap
    (λ n. any_below n (λ k. flag_at c.args.set.now (slice_index net.sources k) && (slice_index net.servers k == j)))
    all
    ∙ sym (reaches_numbers net (flag_at c.args.set.now) j)
