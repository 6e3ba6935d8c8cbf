-- A frontier as a finite map from nodes to keys: `held v` is the key of the node v, None where v is not held.
use Rattle.std.specs.Prelude.{◌≡◌, ◌≢◌, ℕ, ◌≤◌, ◌==◌, ◌&&◌, Bool, true, List, Option, Some, None}
use Rattle.std.specs.List.{list_any}
use Rattle.std.specs.declared.cmp.Ordering.{Ordering}
use Rattle.std.specs.declared.cmp.Reverse.{Reverse}
use Rattle.std.specs.Ordering.{nat_cmp, ordering_then}

-- the map with one node's entry changed
pub record Changes (old new : ℕ → Option ℕ) (node : ℕ) (entry : Option ℕ) : Type 0 where
  pub at : new node ≡ entry
  pub others : (v : ℕ) → v ≢ node → new v ≡ old v

-- an entry whose key none undercuts
pub record IsLeast (held : ℕ → Option ℕ) (node key : ℕ) : Type 0 where
  pub there : held node ≡ Some key
  pub none_below : (v other : ℕ) → held v ≡ Some other → key ≤ other

-- no node is held
abbrev pub HoldsNone : (ℕ → Option ℕ) → Type 0
HoldsNone held = (v : ℕ) → held v ≡ None

-- whether the pair is of this node and key
abbrev pub is_pair : ℕ → ℕ → Reverse (ℕ × ℕ) → Bool
is_pair node key pair = (pair.0.0 == key) && (pair.0.1 == node)

-- each held node has a pair of its key
abbrev pub Pairs : (ℕ → Option ℕ) → List (Reverse (ℕ × ℕ)) → Type 0
Pairs held pairs = (v key : ℕ) → held v ≡ Some key → list_any (is_pair v key) pairs ≡ true

-- a pair with a smaller key is greater
abbrev pub later_pair : Reverse (ℕ × ℕ) → Reverse (ℕ × ℕ) → Ordering
later_pair a b = ordering_then (nat_cmp b.0.0 a.0.0) (nat_cmp b.0.1 a.0.1)
