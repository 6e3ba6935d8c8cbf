use Rattle.std.proofs.Common.{◌≡◌, ◌<◌, ◌∙◌, ℕ, List, ap, arith, length, slice_index, sym}
use Rattle.std.proofs.lemmas.List.{get_or_default}
use Rattle.std.proofs.lemmas.List.Sorted.{searched}
use Rattle.hsp_price_plan.proofs.Pressing.{many_pressed}
use Rattle.hsp_price_plan.proofs.press.PressTable.at.Goals as goal

pub index-requires : goal.index-requires
index-requires c =
    let table = c.args.self.now in
    omega (
      arith,
      c.in-Ok.ensures.bound,
      ap (λ (xs : List ℕ). length xs) c.deref.ensures.value,
      ap (λ (xs : List ℕ). length xs) table.are,
      many_pressed 0 0 table.numbers.items,
      table.pressed.ok.0,
    )

pub returns-in-Ok : goal.returns-in-Ok
returns-in-Ok c =
    let table = c.args.self.now in
    let place = c.in-Ok.place in
    let all =
    searched table.numbers.items c.args.number c.binary_search.result
    (rw c.deref.ensures.value at c.binary_search.ensures.position) (λ i j le l. table.ascend i j 0 le l) in
    let found : (place < length table.numbers.items) × (slice_index table.numbers.items place ≡ c.args.number) =
    rw c.in-Ok.is at all in
    let inside : place < length table.pressed.items =
    omega (
      arith,
      found.0,
      ap (λ (xs : List ℕ). length xs) table.are,
      many_pressed 0 0 table.numbers.items,
    ) in (
      place,
      found.0,
      found.1,
      ap (λ (xs : List ℕ). slice_index xs place) (sym table.are)
          ∙ get_or_default table.pressed.items place 0 c.index.result.now inside ∙ sym c.index.ensures,
    )
