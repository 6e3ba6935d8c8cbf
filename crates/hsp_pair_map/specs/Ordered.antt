-- Numbers of pairs that are found by the order of their octets.
use Rattle.std.specs.Prelude.{ℕ, List, Option, Some, None, Vec}
use Rattle.std.specs.declared.alloc.Global.{Global}
use Rattle.std.specs.BTreeMap.{BTreeMap, is_at}
use Rattle.std.specs.Cmp.Lexicographic.{slice_cmp}
use Rattle.std.specs.Map.{lookup}
use Rattle.std.specs.Ordering.{nat_cmp}
use Rattle.hsp_pair_map.specs.Pairs.{Pair}

-- names, each with what a map has for it
abbrev pub Named : Type 0 → Type 0
Named X = List (Vec ℕ Global × X)

-- what a map has for a name
abbrev pub at_name : {X : Type 0} → Named X → List ℕ → Option X
at_name entries name = lookup (is_at (λ (k : Vec ℕ Global). slice_cmp nat_cmp name k.items)) entries

-- what the map of a first name, if there is one, has for a second name
abbrev pub at_second : Option (BTreeMap (Vec ℕ Global) ℕ) → List ℕ → Option ℕ
at_second None second = None
at_second (Some seconds) second = at_name seconds.entries second

-- the number of a pair
abbrev pub number_in : Named (BTreeMap (Vec ℕ Global) ℕ) → Pair → Option ℕ
number_in firsts pair = at_second (at_name firsts pair.first) pair.second
