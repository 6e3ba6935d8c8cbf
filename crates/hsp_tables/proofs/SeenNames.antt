-- Sets of names in first-seen order.
use Rattle.std.proofs.Common.{◌≡◌, ℕ, Bool, true, List, [], ◌∷◌, ◌++◌, Vec, Global, fold, ap, refl, arith}
use Rattle.std.specs.Prelude.{◌||◌}
use Rattle.std.proofs.lemmas.Bool.{cond_both}
use Rattle.std.proofs.lemmas.List.{map-append}
use Rattle.std.proofs.lemmas.List.Folds.{list_any-append}
use Rattle.std.proofs.lemmas.List.Sums.{fold-append}
use Rattle.std.proofs.lemmas.Map.Keys.{IsDistinct-push}
use Rattle.std.specs.Cmp.Lexicographic.{bytes_decides, nat_list_eq_equiv}
use Rattle.std.specs.List.{IsDistinct, list_any}
use Rattle.std.specs.Str.{bytes_eq}
use Rattle.indexmap.specs.IndexSet.{insert_key}
use Rattle.hsp_tables.specs.KeyedRows.{names_in}
use Rattle.hsp_tables.specs.Table.{first_seen}

abbrev pub Octets : Type 0
Octets = Vec ℕ Global

-- a name is in the set just where one of its texts is
pub name_among : (name : List ℕ) (names : List Octets)
    → list_any (λ n. bytes_eq name n.items) names ≡ list_any (bytes_eq name) (names_in names)
name_among name [] = refl
name_among name (n ∷ names) = rw (name_among name names)

-- an owned name is inserted as its octets
pub names_in-insert_key : (name : Octets) (names : List Octets)
    → names_in (insert_key (λ a b. bytes_eq a.items b.items) names name)
    ≡ insert_key bytes_eq (names_in names) name.items
names_in-insert_key name names =
    grind (arith, name_among name.items names, map-append (λ (n : Octets). n.items) names (name ∷ []))

-- a name that is there changes nothing
pub seen_before : (name : List ℕ) (names : List Octets) → list_any (λ n. bytes_eq name n.items) names ≡ true
    → names_in names ≡ insert_key bytes_eq (names_in names) name
seen_before name names there = grind (arith, name_among name names)

-- the names of one more, in first-seen order
pub first_seen-append : (names : List (List ℕ)) (name : List ℕ)
    → first_seen (names ++ name ∷ []) ≡ insert_key bytes_eq (first_seen names) name
first_seen-append names name = fold-append (insert_key bytes_eq) [] names (name ∷ [])

-- ---- which names were seen

-- a name is there after another one was seen where it was there, or is that one
seen_one : (name other : List ℕ) (names : List (List ℕ))
    → list_any (bytes_eq name) (insert_key bytes_eq names other)
    ≡ (list_any (bytes_eq name) names || bytes_eq name other)
seen_one name other names =
    let alike : bytes_eq name other ≡ true → list_any (bytes_eq name) names ≡ list_any (bytes_eq other) names =
    λ e. ap (λ p. list_any (bytes_eq p) names) ((bytes_decides name other).0 e) in
    by (bytes_eq name other) (list_any (bytes_eq other) names) (list_any (bytes_eq name) names)
    (list_any-append (bytes_eq name) names (other ∷ [])) alike
  where
    by : (is there before : Bool)
        → list_any (bytes_eq name) (names ++ other ∷ [])
        ≡ (list_any (bytes_eq name) names || list_any (bytes_eq name) (other ∷ []))
        → (bytes_eq name other ≡ true → list_any (bytes_eq name) names ≡ list_any (bytes_eq other) names)
        → list_any (bytes_eq name) (insert_key bytes_eq names other)
        ≡ (list_any (bytes_eq name) names || bytes_eq name other)
    by is there before added alike = grind arith

-- so the names that were seen are those that were there and the others
seen_all : (name : List ℕ) (others names : List (List ℕ))
    → list_any (bytes_eq name) (fold (insert_key bytes_eq) names others)
    ≡ (list_any (bytes_eq name) names || list_any (bytes_eq name) others)
seen_all name [] names = grind arith
seen_all name (other ∷ others) names =
    grind (arith, seen_all name others (insert_key bytes_eq names other), seen_one name other names)

-- names in first-seen order are the names
pub seen_among : (name : List ℕ) (names : List (List ℕ))
    → list_any (bytes_eq name) (first_seen names) ≡ list_any (bytes_eq name) names
seen_among name names = seen_all name names []

-- names that are seen in turn stay different
all_apart : (others names : List (List ℕ)) → IsDistinct bytes_eq names
    → IsDistinct bytes_eq (fold (insert_key bytes_eq) names others)
all_apart [] names apart = apart
all_apart (other ∷ others) names apart =
    all_apart others (insert_key bytes_eq names other)
    (cond_both (list_any (bytes_eq other) names) names (names ++ other ∷ []) (IsDistinct bytes_eq) (λ there. apart)
    (IsDistinct-push nat_list_eq_equiv names other apart))

-- no names are different
none_apart : IsDistinct bytes_eq []
unfolding IsDistinct
none_apart = tt

-- names in first-seen order are different
pub seen_apart : (names : List (List ℕ)) → IsDistinct bytes_eq (first_seen names)
seen_apart names = all_apart names [] none_apart
