use Rattle.std.proofs.Common.{◌≡◌, sym, true, false}
use Rattle.std.proofs.lemmas.List.{append-nil}
use Rattle.hsp_check.specs.ArcFlows.{flag_at}
use Rattle.hsp_check.proofs.Reached.{kept_more}
use Rattle.hsp_check.proofs.reaching.flagged.Goals as goal
use Rattle.hsp_check.proofs.reaching.flagged.Goals.{then-flags-place+in_ok-push, else-flags-place}

pub loop-place-preserved : goal.loop-place-preserved
loop-place-preserved c =
    let more = kept_more (flag_at c.args.flags.now) c.loop-place.place in
    elim c.if-flags-place.branch [
      | then-flags-place+in_ok-push w ↦
          let set : flag_at c.args.flags.now c.loop-place.place ≡ true = w.if-flags-place.true in
          rw (w.places-is, w.in_ok-push.ensures.items, c.loop-place.invariant) (sym (rw set at more))
      | else-flags-place w ↦
          let not-set : flag_at c.args.flags.now c.loop-place.place ≡ false = w.if-flags-place.false in
          rw (w.places-is, c.loop-place.invariant) (sym (rw (not-set, append-nil) at more))
    ]
