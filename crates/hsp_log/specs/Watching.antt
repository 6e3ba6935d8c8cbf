-- Logs that are read from a source, of which it is known whether its reads may fail.
use Rattle.std.specs.Prelude.{Bool, ℕ, List, Option}

-- the octets that a source has left while it is watched
abbrev pub watched_left : {S : Type 0} → (S → Option (List ℕ)) → S × Bool → Option (List ℕ)
watched_left remaining watched = remaining watched.0
