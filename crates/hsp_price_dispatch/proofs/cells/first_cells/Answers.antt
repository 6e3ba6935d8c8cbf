use Rattle.std.proofs.Common.{◌≡◌, ◌∙◌, ◌≤◌, ◌+◌, ◌++◌, ◌∷◌, [], List, ℕ, ap, arith, get_or, length, min}
use Rattle.std.proofs.lemmas.List.{length_push}
use Rattle.hsp_price_text.specs.Claim.{Class}
use Rattle.hsp_prices.specs.Sums.{sends}
use Rattle.hsp_price_dispatch.proofs.FirstCells.{cell_pushed, next_cell, sends_many}
use Rattle.hsp_price_dispatch.proofs.cells.first_cells.Goals as goal

pub overflow_add-next : goal.overflow_add-next
overflow_add-next c =
    let d = c.class-item.result in
    let class = get_or c.args.classes.now c.loop-class.class-index d in
    let many : c.cells_many-next.result ≡ min (length class.servers) (length class.amounts) =
    c.cells_many-next.ensures
    ∙ ap (λ (class : Class). min (length class.servers) (length class.amounts)) c.class-item.is in
    let fit : length (sends class) ≤ 1024 = c.requires.fit c.loop-class.class-index d c.loop-class-test.true in
    omega (arith, fit, sends_many class, many, c.loop-class.invariant.low, c.loop-class-test.true, c.requires.few)

pub loop-class-preserved : goal.loop-class-preserved
loop-class-preserved c =
    let i = c.loop-class.class-index in
    let classes = c.args.classes.now in
    let firsts = c.loop-class.firsts.items in
    let d = c.class-item.result in
    let many : c.cells_many-next.result ≡ min (length (get_or classes i d).servers) (length (get_or classes i
    d).amounts) =
    c.cells_many-next.ensures ∙ ap (λ (class : Class). min (length class.servers) (length class.amounts))
    c.class-item.is in
    let fit = c.requires.fit i d c.loop-class-test.true in
    let push : c.push.new.self.items ≡ firsts ++ c.loop-class.next ∷ [] = c.in_ok-push.ensures.items in
    record {
      many =
          ap (λ (list : List ℕ). length list) push ∙ length_push firsts c.loop-class.next
          ∙ ap (λ n. n + 1) c.loop-class.invariant.many;
      next =
          next_cell classes i d c.loop-class.next c.cells_many-next.result c.loop-class-test.true
          c.loop-class.invariant.next
          many;
      low =
          omega (arith, fit, sends_many (get_or classes i d), many, c.loop-class.invariant.low);
      each = λ k l.
          rw push
          (cell_pushed firsts classes i c.loop-class.next k c.loop-class.invariant.many c.loop-class.invariant.next
          c.loop-class.invariant.each l);
    }
