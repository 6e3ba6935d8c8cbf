-- The places of a class, one by one.
use Rattle.std.proofs.Common.{◌≡◌, ◌<◌, ◌≤◌, ◌+◌, ◌-◌, ◌∙◌, ℕ, zero, suc, Bool, true, false, List, [], ◌∷◌, length}
use Rattle.std.proofs.Common.{Option, None, Some, add-zero, ap, arith, drop, refl, sym}
use Rattle.std.proofs.lemmas.List.{drop_all, drop_more}
use Rattle.hsp_instance.specs.declared.arc.Arc.{Arc}
use Rattle.hsp_price_dispatch.specs.Choosing.{can_give, fuller, fullest, place_at, places_from}
use Rattle.hsp_price_dispatch.specs.Holding.{Held, no_cell}
use Rattle.hsp_price_dispatch.specs.declared.cells.Cell.{Cell}
use Rattle.hsp_price_dispatch.specs.declared.choosing.Place.{Place}

-- it comes first of the places from it on
pub place_first : (cells : List Cell) (n : ℕ) (arcs : List Arc) (at : ℕ) → at < length arcs
    → n + length arcs ≤ length cells
    → drop at (places_from n arcs (drop n cells))
    ≡ place_at cells n arcs at ∷ drop (suc at) (places_from n arcs (drop n cells))
place_first cells n [] at inside room = absurd (omega arith)
place_first cells n (arc ∷ arcs) zero inside room =
    let low : n < length cells = omega arith in rw (add-zero, drop_more cells n no_cell low) refl
place_first cells n (arc ∷ arcs) (suc at) inside room =
    let low : n < length cells = omega arith in
    let e : (n + 1) + at ≡ n + suc at = omega arith in
    let more = rw e at (place_first cells (n + 1) arcs at (omega arith) (omega arith)) in
    rw (drop_more cells n no_cell low) more

-- there are no more places than arcs
pub places_many : (cells : List Cell) (n : ℕ) (arcs : List Arc) → length (places_from n arcs cells) ≤ length arcs
places_many cells n [] = omega arith
places_many [] n (arc ∷ arcs) = omega arith
places_many (cell ∷ cells) n (arc ∷ arcs) = let more = places_many cells (n + 1) arcs in omega (arith, more)

-- from behind the last place on there is none
pub none_behind : (own : Held) (cells : List Cell) (n : ℕ) (arcs : List Arc)
    → None ≡ fullest own (drop (length arcs) (places_from n arcs cells))
none_behind own cells n arcs =
    rw (drop_all (length arcs) (places_from n arcs cells) (places_many cells n arcs)) refl

-- the place before the ones that were seen
pub place_before : (cells : List Cell) (n : ℕ) (arcs : List Arc) (at : ℕ) → 0 < at → at ≤ length arcs
    → n + length arcs ≤ length cells
    → drop (at - 1) (places_from n arcs (drop n cells))
    ≡ place_at cells n arcs (at - 1) ∷ drop at (places_from n arcs (drop n cells))
place_before cells n arcs zero some inside room = absurd (omega arith)
place_before cells n arcs (suc at) some inside room =
    let e : suc at - 1 ≡ at = omega arith in rw e (place_first cells n arcs at (omega arith) room)

-- the best of the places from one on that can give
pub best_here : (own : Held) (places rest : List Place) (place made : Place) (given : Bool) (best : Option Place)
    → places ≡ place ∷ rest → given ≡ can_give own place → given ≡ true → best ≡ fullest own rest
    → made ≡ fuller place best → Some made ≡ fullest own places
best_here own places rest place made given best list gives e is m =
    let can : can_give own place ≡ true = sym gives ∙ e in
    rw (list, can) (ap (λ (p : Place). Some p) (m ∙ ap (fuller place) is))

-- and from one on that can't
pub best_later : (own : Held) (places rest : List Place) (place : Place) (given : Bool) (best : Option Place)
    → places ≡ place ∷ rest → given ≡ can_give own place → given ≡ false → best ≡ fullest own rest
    → best ≡ fullest own places
best_later own places rest place given best list gives e is =
    let can : can_give own place ≡ false = sym gives ∙ e in rw (list, can) is
