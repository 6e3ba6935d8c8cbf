-- The least pay over arcs, by a number for each server.
use Rattle.std.specs.Prelude.{◌≡◌, ◌≤◌, ◌<◌, ◌⊎◌, ◌==◌, ℕ, true, List, [], length, slice_index}
use Rattle.std.specs.List.{AllByRecursion, list_any}
use Rattle.hsp_instance.specs.declared.arc.Arc.{Arc}
use Rattle.hsp_price_check.specs.Extras.{most_extra, pay_by}

-- each number is at most that of two prices
abbrev pub AreLow : List ℕ → Type 0
AreLow extras = (j : ℕ) → j < length extras → slice_index extras j ≤ most_extra

-- no arc has less, and some arc has it where there is one
pub record IsLeastPay (extras : List ℕ) (arcs : List Arc) (least : ℕ) : Type 0 where
  pub none_less : AllByRecursion (λ arc. least ≤ pay_by extras arc) arcs
  pub attained : (arcs ≡ []) ⊎ (list_any (λ arc. pay_by extras arc == least) arcs ≡ true)
