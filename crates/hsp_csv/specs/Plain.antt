-- Lines without a quote and without an end within them.
use Rattle.std.specs.Prelude.{◌≡◌, ◌==◌, ◌||◌, Bool, false, ℕ, List, ◌∷◌, ◌++◌, Option, None, Some}
use Rattle.std.specs.Borrow.{Bor}
use Rattle.std.specs.List.{list_any}

-- an octet other than a comma that may have a meaning of its own: a quote, a carriage return or a line feed
abbrev pub is_mark : ℕ → Bool
is_mark octet = (octet == 34) || (octet == 13) || (octet == 10)

abbrev pub comma : ℕ
comma = 44

abbrev pub is_comma : ℕ → Bool
is_comma octet = octet == comma

-- the octets before the first comma and those after it, or none where there is no comma
abbrev pub IsSplit : List ℕ → Option (Bor (List ℕ) × Bor (List ℕ)) → Type 0
IsSplit line None = list_any is_comma line ≡ false
IsSplit line (Some parts) = (line ≡ parts.0.now ++ comma ∷ parts.1.now) × (list_any is_comma parts.0.now ≡ false)
