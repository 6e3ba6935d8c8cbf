-- The entries at a front.
use Rattle.std.proofs.Common.{◌≡◌, ◌≢◌, ◌∙◌, ◌++◌, ℕ, List, [], ◌∷◌, arith, refl, eq-eqb}
use Rattle.std.proofs.lemmas.Bool.{ne_eqb}
use Rattle.std.proofs.lemmas.List.{append-nil}
use Rattle.hsp_log.specs.Entries.{Event, entries_at}

-- the entries at a front in two lists of events stand one after the other
pub entries_append : (front : ℕ) (a b : List Event)
    → entries_at front (a ++ b) ≡ entries_at front a ++ entries_at front b
entries_append front [] b = refl
entries_append front (event ∷ a) b = grind (arith, entries_append front a b)

-- an event of the front adds its entry
pub more_here : (front : ℕ) (events : List Event) (event : Event) → event.front ≡ front
    → entries_at front (events ++ event ∷ []) ≡ entries_at front events ++ event.entry ∷ []
more_here front events event here = entries_append front events (event ∷ []) ∙ rw (eq-eqb event.front front here) refl

-- an event of another front adds nothing
pub more_elsewhere : (front : ℕ) (events : List Event) (event : Event) → event.front ≢ front
    → entries_at front (events ++ event ∷ []) ≡ entries_at front events
more_elsewhere front events event other =
    entries_append front events (event ∷ [])
    ∙ rw (ne_eqb event.front front other) (append-nil (entries_at front events))
