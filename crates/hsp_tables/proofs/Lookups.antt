-- What a map has at a key is the number of the row of the key.
use Rattle.std.proofs.Common.{◌≡◌, ◌≢◌, ◌∙◌, ◌+◌, ◌++◌, ◌&&◌, ◌==◌, ℕ, zero, suc, Bool, true, false, List, [], ◌∷◌}
use Rattle.std.proofs.Common.{Option, Some, None, length, map, take, option_map, inl, inr, refl, ap, arith}
use Rattle.std.specs.Prelude.{IfNone, IfSome, slice_get}
use Rattle.std.specs.Cmp.Lexicographic.{bytes_decides}
use Rattle.std.proofs.lemmas.Bool.{both_ways, cases_Bool, le-ltb, lt-ltb}
use Rattle.std.proofs.lemmas.List.Elements.{All-from_recursion}
use Rattle.std.proofs.lemmas.Option.{get_or_from_slice_get, slice_get-map, slice_get_within}
use Rattle.std.proofs.lemmas.Cmp.{nat_list_eq_equiv}
use Rattle.std.proofs.lemmas.List.{length-map, map-append, take_more}
use Rattle.std.specs.List.{IsDistinct, find, position, position_or_len}
use Rattle.std.specs.Map.{lookup}
use Rattle.std.specs.Str.{bytes_eq}
use Rattle.hsp_pair_map.specs.Pairs.{Pair}
use Rattle.hsp_tables.specs.Capacities.{CapacityEntry}
use Rattle.hsp_tables.specs.Costs.{CostEntry}
use Rattle.hsp_tables.specs.Demand.{DemandEntry, is_demand, same_demand}
use Rattle.hsp_tables.specs.Keyed.{PairName, cost_entry, demand_entry, pair_of}
use Rattle.hsp_tables.specs.KeyedRows.{server_entry}
use Rattle.hsp_tables.specs.LentKeys.{both}
use Rattle.hsp_tables.specs.declared.keyed.ServerKey.{ServerKey}

-- two pairs of names are compared in either order
pub flipped : (a b c d : List ℕ) → (bytes_eq a b && bytes_eq c d) ≡ (bytes_eq b a && bytes_eq d c)
flipped a b c d = rw (nat_list_eq_equiv.symm a b, nat_list_eq_equiv.symm c d) refl

-- a key passes just where its row does, which has the key's number
value_found : {K Row : Type 0} (test : K → Bool) (is : Row → Bool) (row_of : K × ℕ → Row) (number : Row → ℕ)
    → ((e : K × ℕ) → test e.0 ≡ is (row_of e)) → ((e : K × ℕ) → number (row_of e) ≡ e.1)
    → (es : List (K × ℕ)) → lookup test es ≡ option_map number (find is (map row_of es))
value_found test is row_of number tells has [] = refl
value_found test is row_of number tells has (e ∷ es) =
    grind (arith, tells e, has e, value_found test is row_of number tells has es)

-- the map finds the cost of the row with both names
pub cost_found : (region site : List ℕ) (es : List (PairName × ℕ))
    → lookup (λ (k : PairName). bytes_eq region k.first && bytes_eq site k.second) es
    ≡ option_map (λ (row : CostEntry). row.cost)
    (find (λ (row : CostEntry). bytes_eq row.region region && bytes_eq row.site site) (map cost_entry es))
cost_found region site es =
    value_found (λ (k : PairName). bytes_eq region k.first && bytes_eq site k.second)
    (λ (row : CostEntry). bytes_eq row.region region && bytes_eq row.site site) cost_entry
    (λ (row : CostEntry). row.cost)
    (λ e. flipped region e.0.first site e.0.second) (λ e. refl) es

-- the map finds the capacity of the row with site and server
pub server_found : (site : List ℕ) (id : ℕ) (es : List (ServerKey × ℕ))
    → lookup (λ (k : ServerKey). bytes_eq site k.site.items && (k.server_id == id)) es
    ≡ option_map (λ (row : CapacityEntry). row.capacity)
    (find (λ (row : CapacityEntry). bytes_eq row.site site && (row.server_id == id)) (map server_entry es))
server_found site id es =
    value_found (λ (k : ServerKey). bytes_eq site k.site.items && (k.server_id == id))
    (λ (row : CapacityEntry). bytes_eq row.site site && (row.server_id == id)) server_entry
    (λ (row : CapacityEntry). row.capacity)
    (λ e. rw (nat_list_eq_equiv.symm site e.0.site.items) refl) (λ e. refl) es

-- the place of the first that passes is that of what passes in its stead
pub place_found : {A B : Type 0} (test : A → Bool) (is : B → Bool) (f : A → B) → ((a : A) → test a ≡ is (f a))
    → (xs : List A) → position test xs ≡ position is (map f xs)
place_found {A} test is f tells xs = rw (length-map, same_place xs) refl
  where
    same_place : (xs : List A) → position_or_len test xs ≡ position_or_len is (map f xs)
    same_place [] = refl
    same_place (x ∷ xs) = rw (← tells x, same_place xs) refl

-- of rows that are apart, the place of the one that passes
only_place : {Row : Type 0} (test : Row → Bool) (same : Row → Row → Bool)
    → ((a b : Row) → test a ≡ true → test b ≡ true → same a b ≡ true)
    → (rows : List Row) → IsDistinct same rows → (n : ℕ) (row : Row) → slice_get rows n ≡ Some row → test row ≡ true
    → position_or_len test rows ≡ n
unfolding IsDistinct
only_place test same alike [] apart n row e t = absurd cc
only_place test same alike (x ∷ xs) apart zero row e t =
    let is : x ≡ row = cc in
    rw (is, t) refl
only_place {Row} test same alike (x ∷ xs) apart (suc n) row e t = elim (cases_Bool (test x)) [
  | inl passes ↦
      let later : same x row ≡ false =
      rw (get_or_from_slice_get xs n row row e) at
      (All-from_recursion (λ (y : Row). same x y ≡ false) xs apart.0 n row (slice_get_within xs n row e)) in
      absurd (both_ways (same x row) later (alike x row passes t))
  | inr fails ↦ rw (fails, only_place test same alike xs apart.1 n row e t) (omega arith)
]

-- where no row passes there is no place
no_place : {Row : Type 0} (test : Row → Bool) (rows : List Row)
    → ((n : ℕ) (row : Row) → slice_get rows n ≡ Some row → test row ≡ false) → position_or_len test rows ≡ length rows
no_place test [] none = refl
no_place test (x ∷ xs) none = rw (none 0 x refl, no_place test xs (λ n row e. none (suc n) row e)) (omega arith)

-- both names are those of a row
named : (region handle : List ℕ) (row : DemandEntry) → is_demand region handle row ≡ true
    → (region ≡ row.region) × (handle ≡ row.handle)
named region handle row t =
    let are = both (bytes_eq region row.region) (bytes_eq handle row.handle) t in
    ((bytes_decides region row.region).0 are.0, (bytes_decides handle row.handle).0 are.1)

-- two names equal themselves
pub is_named : (a b : List ℕ) → bytes_eq a a && bytes_eq b b ≡ true
is_named a b = rw ((bytes_decides a a).1 refl, (bytes_decides b b).1 refl) refl

-- rows of the same names are alike
alike_named : (region handle : List ℕ) (a b : DemandEntry) → is_demand region handle a ≡ true
    → is_demand region handle b ≡ true → same_demand a b ≡ true
alike_named region handle a b s t =
    let n = named region handle a s in
    let m = named region handle b t in
    rw (← n.0, ← n.1, ← m.0, ← m.1) (is_named region handle)

-- the number that a map of pairs finds is the place of the row of these names
pub demand_placed : (region handle : List ℕ) (es : List (PairName × ℕ)) (found : Option ℕ)
    → IsDistinct same_demand (map demand_entry es)
    → IfSome found (λ n. slice_get (map pair_of es) n ≡ Some (record { first = region; second = handle }))
    → IfNone found ((n : ℕ) → slice_get (map pair_of es) n ≢ Some (record { first = region; second = handle }))
    → found ≡ position (is_demand region handle) (map demand_entry es)
demand_placed region handle es (Some n) apart there none = entry (slice_get es n) refl
  where
    entry : (o : Option (PairName × ℕ)) → slice_get es n ≡ o
        → Some n ≡ position (is_demand region handle) (map demand_entry es)
    entry None e =
        let nothing : ◌≡◌ {A = Option Pair} None (Some (record { first = region; second = handle })) =
        rw (slice_get-map pair_of es n, e) at there in
        absurd cc
    entry (Some x) e =
        let pair : Some (pair_of x) ≡ Some (record { first = region; second = handle }) =
        rw (slice_get-map pair_of es n, e) at there in
        let row : slice_get (map demand_entry es) n ≡ Some (demand_entry x) =
        slice_get-map demand_entry es n ∙ rw e refl in
        let same : pair_of x ≡ record { first = region; second = handle } = cc in
        let first : x.0.first ≡ region = ap (λ (p : Pair). p.first) same in
        let second : x.0.second ≡ handle = ap (λ (p : Pair). p.second) same in
        let passes : is_demand region handle (demand_entry x) ≡ true = rw (first, second) (is_named region handle) in
        let place =
        only_place (is_demand region handle) same_demand (alike_named region handle) (map demand_entry es) apart n
        (demand_entry x) row passes in
        rw (
          place,
          lt-ltb n (length (map demand_entry es)) (slice_get_within (map demand_entry es) n (demand_entry x) row),
        )
        refl
demand_placed region handle es None apart there none =
    let nowhere =
    no_place (is_demand region handle) (map demand_entry es) (λ n row e. entry n row e (slice_get es n) refl) in
    rw (nowhere, le-ltb (length (map demand_entry es)) (length (map demand_entry es)) (omega arith)) refl
  where
    entry : (n : ℕ) (row : DemandEntry) → slice_get (map demand_entry es) n ≡ Some row → (o : Option (PairName × ℕ))
        → slice_get es n ≡ o → is_demand region handle row ≡ false
    entry n row e None at_none =
        let nothing : ◌≡◌ {A = Option DemandEntry} None (Some row) =
        rw (slice_get-map demand_entry es n, at_none) at e in
        absurd cc
    entry n row e (Some x) at_some = elim (cases_Bool (is_demand region handle row)) [
      | inl passes ↦
          let own : Some (demand_entry x) ≡ Some row = rw (slice_get-map demand_entry es n, at_some) at e in
          let names = named region handle row passes in
          let same : demand_entry x ≡ row = cc in
          let here : (region ≡ x.0.first) × (handle ≡ x.0.second) = rw (← same) at names in
          absurd (none n (slice_get-map pair_of es n ∙ rw (at_some, ← here.0, ← here.1) refl))
      | inr fails ↦ fails
    ]

-- the names of one more row
pub pairs_more : (es : List (PairName × ℕ)) (n : ℕ) (e : PairName × ℕ) → slice_get es n ≡ Some e
    → map pair_of (take (n + 1) es) ≡ map pair_of (take n es) ++ pair_of e ∷ []
pairs_more es n e there =
    rw (take_more es n e (slice_get_within es n e there), get_or_from_slice_get es n e e there)
    (map-append pair_of (take n es) (e ∷ []))
