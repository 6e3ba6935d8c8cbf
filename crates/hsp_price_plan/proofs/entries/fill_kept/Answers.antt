use Rattle.std.proofs.Common.{◌∙◌, ap, arith, filter, get_or, map, sym, take_all}
use Rattle.std.proofs.lemmas.Bool.{le-leb, lt-leb}
use Rattle.std.proofs.lemmas.List.{append-nil}
use Rattle.hsp_prices.specs.KeptRows.{KeptArc}
use Rattle.hsp_price_plan.specs.Entries.{arcs_by}
use Rattle.hsp_price_plan.specs.declared.entries.TheConstants.{KEPT}
use Rattle.hsp_price_plan.proofs.ArcEntries.{length-arcs_by, no_site}
use Rattle.hsp_price_plan.proofs.KeptArcs.{kept_more}
use Rattle.hsp_price_plan.proofs.entries.fill_kept.Goals as goal
use Rattle.hsp_price_plan.proofs.entries.fill_kept.Goals.{then-entries-i-ge-KEPT+in_ok-push, else-entries-i-ge-KEPT}

pub loop-i-preserved : goal.loop-i-preserved
loop-i-preserved c =
    let more =
    kept_more c.args.shape.now c.args.entries.now c.loop-i.i no_site c.loop-i-test.true c.requires in
    elim c.if-entries-i-ge-KEPT.branch [
      | then-entries-i-ge-KEPT+in_ok-push w ↦
          let is = le-leb KEPT (get_or c.args.entries.now c.loop-i.i 0) w.if-entries-i-ge-KEPT.true in
          rw (w.kept-is, w.in_ok-push.ensures.items, w.arc_of.ensures, c.loop-i.invariant) (sym (rw is at more))
      | else-entries-i-ge-KEPT w ↦
          let is = lt-leb KEPT (get_or c.args.entries.now c.loop-i.i 0) w.if-entries-i-ge-KEPT.false in
          rw w.kept-is (c.loop-i.invariant ∙ sym (append-nil _) ∙ sym (rw is at more))
    ]

pub returns : goal.returns
returns c =
    let many = length-arcs_by c.args.shape.now c.args.entries.now c.requires in
    c.loop-i.invariant
    ∙ ap (λ arcs. map (λ (a : KeptArc). a.arc) (filter (λ a. a.is_kept) arcs))
    (take_all c.loop-i.i (arcs_by c.args.shape.now c.args.entries.now) (omega (arith, many, c.loop-i-test.false)))
