-- Rows of a service that keep more of their arcs.
use Rattle.std.proofs.Common.{◌≡◌, ℕ, List, length, subst, sym}
use Rattle.hsp_prices.specs.KeptRows.{KeptRow}
use Rattle.hsp_price_plan.specs.Held.{AreWithin, HeldRows, with_each}
use Rattle.hsp_price_plan.proofs.StillRows.{LeavesRows}
use Rattle.hsp_price_check.specs.declared.numbers.ServiceNumbers.{ServiceNumbers}
use Rattle.hsp_price_plan.specs.Planning.{AreOfSome, Outlasts}
use Rattle.hsp_price_plan.proofs.HeldRows.{held_still, rows_within}

-- arcs lead to servers that are there
pub within_many : {n : ℕ} (numbers : ServiceNumbers) (kept : List KeptRow) → AreOfSome numbers kept
    → n ≡ length numbers.server_hosts.items → AreWithin n kept
within_many numbers kept some many = subst (λ n. AreWithin n kept) (sym many) (rows_within numbers kept some)

-- rows outlast a pass that leaves all but what is kept
pub outlasting : (f : KeptRow → KeptRow) → LeavesRows f → (numbers : ServiceNumbers) (old new : HeldRows)
    → new ≡ with_each f old → Outlasts numbers old.rows new.rows
outlasting f leaves numbers old new is =
    subst (λ (held : HeldRows). Outlasts numbers old.rows held.rows) (sym is) (held_still f leaves numbers old.rows)
