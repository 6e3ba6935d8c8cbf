-- The numbers of classes, found by their regions and servers.
use Rattle.std.specs.Prelude.{◌≡◌, ◌&&◌, Bool, ℕ, List, position}
use Rattle.std.specs.Map.{lookup}
use Rattle.std.specs.Str.{bytes_eq}
use Rattle.hsp_price_text.specs.Claim.{Class}
use Rattle.hsp_price_check.specs.FirstRows.{FirstRow, is_key_of}

-- a class is of the region and the servers
abbrev pub is_named : List ℕ → List ℕ → Class → Bool
is_named region servers class = bytes_eq class.region region && bytes_eq class.servers servers

-- what is found is the first class of the region and the servers
abbrev pub HasClasses : List Class → List FirstRow → Type 0
HasClasses classes numbers =
    (region servers : List ℕ) → lookup (is_key_of region servers) numbers ≡ position (is_named region servers) classes
