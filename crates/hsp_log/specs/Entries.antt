-- Queries: the entries of a log, and events, which are entries at fronts.
use Rattle.std.specs.Prelude.{◌==◌, ℕ, List, [], ◌∷◌, ◌++◌, if◌then◌else◌}
use Rattle.hsp_names.specs.declared.handle.HandleRef.{HandleRef}
use Rattle.hsp_names.specs.Lent.{octets_of}

-- an entry of a log: a query for a handle, from a region
pub record Entry : Type 0 where
  pub region : List ℕ
  pub handle : List ℕ

-- a query for a handle, from a region
abbrev pub query : List ℕ → HandleRef → Entry
query region handle = record { region = region; handle = octets_of handle }

-- an entry at a front
pub record Event : Type 0 where
  pub front : ℕ
  pub entry : Entry

-- the entries at a front
abbrev pub entries_at : ℕ → List Event → List Entry
entries_at front [] = []
entries_at front (event ∷ events) =
    if event.front == front then event.entry ∷ entries_at front events else entries_at front events

-- the answers to questions, each after all those before it
abbrev pub each_after : {A B : Type 0} → (List A → A → B) → List A → List A → List B
each_after answer earlier [] = []
each_after answer earlier (one ∷ more) = answer earlier one ∷ each_after answer (earlier ++ one ∷ []) more
