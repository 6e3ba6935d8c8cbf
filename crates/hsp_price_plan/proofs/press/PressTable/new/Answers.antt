use Rattle.std.proofs.Common.{◌≡◌, ◌∙◌, ◌++◌, ℕ, List, ap, arith, length, length-append, subst, sym}
use Rattle.std.specs.List.{Contains}
use Rattle.std.proofs.lemmas.List.Elements.{Contains-append_left, Contains-append_right, Contains-get_or}
use Rattle.std.proofs.lemmas.List.Sorted.{Contains-permutation, IsNonDecreasingBy-from_sort, length_permutation}
use Rattle.std.specs.Prelude.{slice_index_or}
use Rattle.hsp_price_plan.specs.Pressing.{pressed_from}
use Rattle.hsp_price_plan.proofs.press.PressTable.new.Goals as goal

pub invariant_of-result : goal.invariant_of-result
invariant_of-result c =
    let numbers = c.sort_unstable.new.self.items in
    let both : c.extend_from_slice-2.new.self.items ≡ c.args.first.now ++ c.args.second.now =
    c.in_ok-extend_from_slice-2.ensures.items
    ∙ ap (λ (xs : List ℕ). xs ++ c.args.second.now)
    (c.in_ok-extend_from_slice.ensures.items
    ∙ ap (λ (xs : List ℕ). xs ++ c.args.first.now) c.in_ok-numbers.ensures.items) in
    record {
      ascend = IsNonDecreasingBy-from_sort (λ x. x) numbers c.sort_unstable.ensures.sorted;
      are = c.in_ok-pressed.ensures ∙ ap (pressed_from 0 0) c.deref.ensures.value;
      few =
          omega (
            arith,
            length_permutation _ numbers c.sort_unstable.ensures.permutation,
            ap (λ (xs : List ℕ). length xs) both,
            length-append c.args.first.now c.args.second.now,
            c.requires,
          );
    }

pub returns-clause-first : goal.returns-clause-first
returns-clause-first c k d l =
    let x = slice_index_or c.args.first.now k d in
    Contains-permutation c.extend_from_slice-2.new.self.items c.sort_unstable.new.self.items x
    c.sort_unstable.ensures.permutation
    (subst (λ (xs : List ℕ). Contains xs x)
    (sym
    (c.in_ok-extend_from_slice-2.ensures.items
    ∙ ap (λ (xs : List ℕ). xs ++ c.args.second.now)
    (c.in_ok-extend_from_slice.ensures.items
    ∙ ap (λ (xs : List ℕ). xs ++ c.args.first.now) c.in_ok-numbers.ensures.items)))
    (Contains-append_left c.args.first.now c.args.second.now x (Contains-get_or c.args.first.now k d l)))

pub returns-clause-second : goal.returns-clause-second
returns-clause-second c k d l =
    let x = slice_index_or c.args.second.now k d in
    Contains-permutation c.extend_from_slice-2.new.self.items c.sort_unstable.new.self.items x
    c.sort_unstable.ensures.permutation
    (subst (λ (xs : List ℕ). Contains xs x) (sym c.in_ok-extend_from_slice-2.ensures.items)
    (Contains-append_right c.extend_from_slice.new.self.items c.args.second.now x
    (Contains-get_or c.args.second.now k d l)))
