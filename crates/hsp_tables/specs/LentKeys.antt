-- Lent names that are equal to a key's are hashed and compared as the key.
use Rattle.std.proofs.Common.{◌≡◌, ◌++◌, ◌&&◌, ◌==◌, ℕ, Bool, true, false, List, refl}
use Rattle.std.proofs.lemmas.Bool.{eqb-true}
use Rattle.std.proofs.lemmas.Cmp.{nat_eq_equiv}
use Rattle.std.specs.Cmp.Lexicographic.{bytes_decides}
use Rattle.std.specs.Hash.{HashWrites, slice, u32, u8}
use Rattle.std.specs.Str.{bytes_eq}

pub both : (a b : Bool) → (a && b) ≡ true → (a ≡ true) × (b ≡ true)
both true b h = (refl, h)
both false b h = cc h

equal_names : (a b c d : List ℕ) → (bytes_eq a b && bytes_eq c d) ≡ true → (a ≡ b) × (c ≡ d)
equal_names a b c d h =
    let is = both (bytes_eq a b) (bytes_eq c d) h in
    ((bytes_decides a b).0 is.0, (bytes_decides c d).0 is.1)

-- what is fed to a hasher of two lists of octets
abbrev hashed : List ℕ → List ℕ → HashWrites
hashed a c = slice u8 a ++ slice u8 c

pub hashed_alike : (a b c d : List ℕ) → (bytes_eq a b && bytes_eq c d) ≡ true → hashed a c ≡ hashed b d
hashed_alike a b c d h =
    let is = equal_names a b c d h in
    rw (is.0, is.1) refl

pub compared_alike : (a b c d y z : List ℕ) → (bytes_eq a b && bytes_eq c d) ≡ true
    → (bytes_eq a y && bytes_eq c z) ≡ (bytes_eq b y && bytes_eq d z)
compared_alike a b c d y z h =
    let is = equal_names a b c d h in
    rw (is.0, is.1) refl

-- a name and an identifier
equal_servers : (a b : List ℕ) (m n : ℕ) → (bytes_eq a b && (n == m)) ≡ true → (a ≡ b) × (n ≡ m)
equal_servers a b m n h =
    let is = both (bytes_eq a b) (n == m) h in
    ((bytes_decides a b).0 is.0, eqb-true n m is.1)

pub server_hashed_alike : (a b : List ℕ) (m n : ℕ) → (bytes_eq a b && (n == m)) ≡ true
    → (slice u8 a ++ u32 m) ≡ (slice u8 b ++ u32 n)
server_hashed_alike a b m n h =
    let is = equal_servers a b m n h in
    rw (is.0, is.1) refl

pub server_compared_alike : (a b : List ℕ) (m n : ℕ) (y : List ℕ) (k : ℕ) → (bytes_eq a b && (n == m)) ≡ true
    → (bytes_eq a y && (k == m)) ≡ (bytes_eq b y && (n == k))
server_compared_alike a b m n y k h =
    let is = equal_servers a b m n h in
    rw (is.0, is.1, nat_eq_equiv.symm k m) refl
