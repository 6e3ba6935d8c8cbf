use Rattle.std.proofs.Common.{◌≡◌, inl, inr, ℕ, List, [], ◌∷◌, ◌++◌, ap, arith, length, slice_index, subst, sym}
use Rattle.std.proofs.lemmas.Bool.{cases_lt}
use Rattle.std.proofs.lemmas.List.{get_or_push, get_or_append_left, length_push}
use Rattle.hsp_price_plan.specs.Pressing.{IsPressed}
use Rattle.hsp_price_plan.proofs.press.PressTable.each.Goals as goal

pub at-requires : goal.at-requires
at-requires c = c.requires c.loop-place.place 0 c.loop-place-test.true

pub loop-place-preserved : goal.loop-place-preserved
loop-place-preserved c =
    let place = c.loop-place.place in
    let old = c.loop-place.pressed.items in
    let numbers = c.args.self.now.numbers.items in
    let xs = c.args.numbers.now in
    let new : c.push.new.self.items ≡ old ++ c.at.result ∷ [] = c.in_ok-push.ensures.items in
    record {
      many =
          omega (arith, c.loop-place.invariant.many, ap (λ (ys : List ℕ). length ys) new, length_push old c.at.result);
      each = λ j l.
          subst (λ (ys : List ℕ). IsPressed numbers (slice_index xs j) (slice_index ys j)) (sym new)
          (elim (cases_lt j place) [
            | inl before ↦
                subst (IsPressed numbers (slice_index xs j))
                (sym
                (get_or_append_left old (c.at.result ∷ []) 0 j (omega (arith, before, c.loop-place.invariant.many))))
                (c.loop-place.invariant.each j before)
            | inr after ↦
                let last : j ≡ place = omega (arith, l, after) in
                rw last
                (subst (IsPressed numbers (slice_index xs place))
                (sym (get_or_push old c.at.result 0 place c.loop-place.invariant.many)) c.at.ensures)
          ]);
    }
