-- Names of regions and sites.
use Rattle.std.specs.Prelude.{◌==◌, ◌&&◌, ◌||◌, not, Bool, ℕ, List, length, nat_le}
use Rattle.std.specs.List.{list_all}
use Rattle.hsp_text.specs.declared.limits.TheConstants.{LONGEST_NAME}

abbrev pub is_between : ℕ → ℕ → ℕ → Bool
is_between low high n = nat_le low n && nat_le n high

-- an ASCII letter, a digit, `-`, `_` or `.`
abbrev pub is_name_octet : ℕ → Bool
is_name_octet o = (is_between 65 90 o || is_between 97 122 o || is_between 48 57 o) || (o == 45 || o == 95 || o == 46)

-- 1 to 64 of these
abbrev pub is_name : List ℕ → Bool
is_name text = not (length text == 0) && nat_le (length text) LONGEST_NAME && list_all is_name_octet text
