-- Keys, each with the number that it was added with first.
use Rattle.std.specs.Prelude.{◌≡◌, ◌&&◌, Bool, ℕ, List, None, Some, if◌then◌else◌}
use Rattle.std.specs.Map.{lookup}
use Rattle.std.specs.Str.{bytes_eq}
use Rattle.hsp_instance.specs.Building.{or_else}
use Rattle.hsp_price_check.specs.declared.keys.KindKey.{KindKey}

-- a key and its number
abbrev pub FirstRow : Type 0
FirstRow = KindKey × ℕ

-- a key is of the region and the numbers
abbrev pub is_key_of : List ℕ → List ℕ → KindKey → Bool
is_key_of region places key = bytes_eq region key.region.items && bytes_eq places key.places.items

-- a number is found by its key too, where none was found before
abbrev pub HasAdded : List FirstRow → List FirstRow → List ℕ → List ℕ → ℕ → Type 0
HasAdded old new own_region own_places number =
    (region places : List ℕ)
    → lookup (is_key_of region places) new
    ≡ or_else (lookup (is_key_of region places) old)
    (if bytes_eq region own_region && bytes_eq places own_places then Some number else None)
