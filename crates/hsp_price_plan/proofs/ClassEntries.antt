-- Entries of classes found by their regions and servers, and what an entry that is set or inserted changes.
use Rattle.std.proofs.Common.{◌≡◌, ℕ, zero, suc, ◌∙◌, ◌&&◌, inl, inr, Bool}
use Rattle.std.proofs.Common.{true, false, List, [], ◌∷◌, length, refl, ap, ap₂}
use Rattle.std.proofs.Common.{sym, arith, zero-add}
use Rattle.std.specs.Prelude.{Option, Some, None, Vec, cond, option_map, replicate, if◌then◌else◌}
use Rattle.std.specs.declared.alloc.Global.{Global}
use Rattle.std.specs.declared.cmp.Ordering.{Ordering}
use Rattle.std.specs.declared.cmp.Ordering.TheVariants.{Less, Equal, Greater}
use Rattle.std.specs.BTreeMap.{insert_entry, is_at}
use Rattle.std.specs.Cmp.Lexicographic.{slice_cmp}
use Rattle.std.specs.Map.{lookup, set_value}
use Rattle.std.specs.Ordering.{is_eq, match_ordering, nat_cmp, ordering_then}
use Rattle.std.specs.Str.{bytes_eq}
use Rattle.std.proofs.lemmas.Bool.{both_ways, cases_Bool, false_from_ne_true}
use Rattle.std.proofs.lemmas.Cmp.{nat_list_cmp_total, tied_itself}
use Rattle.std.proofs.lemmas.Map.Lookups.{exact_bytes}
use Rattle.hsp_prices.proofs.Tabling.{both_equal}
use Rattle.hsp_prices.specs.Groups.{Group}
use Rattle.hsp_prices.proofs.RowLeast.{same_test}
use Rattle.hsp_price_plan.specs.ClassSums.{AddsFlow, Entries, added, amounts_at, amounts_with, is_key_of, key_cmp}
use Rattle.hsp_price_plan.specs.declared.classes.ClassKey.{ClassKey}

-- two orders in turn that find no difference
then_equal : (o p : Ordering) → is_eq (ordering_then o p) ≡ true → (o ≡ Equal) × (p ≡ Equal)
then_equal Less p e = cc
then_equal Equal Less e = cc
then_equal Equal Equal e = (refl, refl)
then_equal Equal Greater e = cc
then_equal Greater p e = cc

-- keys that compare alike are of one region and have the same servers
pub at_key : (a b : ClassKey) → is_at (key_cmp a) b ≡ is_key_of a.region.items a.servers.items b
at_key a b =
    same_test (is_at (key_cmp a) b) (is_key_of a.region.items a.servers.items b) (λ t.
    let parts = then_equal (slice_cmp nat_cmp a.region.items b.region.items)
    (slice_cmp nat_cmp a.servers.items b.servers.items) t in
    (both_equal b.region.items a.region.items b.servers.items a.servers.items).1 (
      sym (exact_bytes a.region.items b.region.items parts.0),
      sym (exact_bytes a.servers.items b.servers.items parts.1),
    )) (λ t.
    let same = (both_equal b.region.items a.region.items b.servers.items a.servers.items).0 t in
    ap is_eq
    (ap₂ ordering_then
    (ap (slice_cmp nat_cmp a.region.items) same.0 ∙ tied_itself nat_list_cmp_total a.region.items)
    (ap (slice_cmp nat_cmp a.servers.items) same.1 ∙ tied_itself nat_list_cmp_total a.servers.items)))

-- tests that agree on all keys find the same
pub lookup_same : {K X : Type 0} (s t : K → Bool) → ((k : K) → s k ≡ t k) → (es : List (K × X))
    → lookup s es ≡ lookup t es
lookup_same s t same [] = refl
lookup_same s t same (e ∷ es) =
    ap₂ (λ b o. cond b (Some e.1) o) (same e.0) (lookup_same s t same es)

-- ---- what a test finds among entries with a new value at the keys that another test finds

module _ {X : Type 0} (w v : X) (rest : Option X) where
  -- a key of both tests has the new value
  first : (c b : Bool) → c ≡ b → cond c (Some w) rest ≡ cond b (Some w) (cond c (Some v) rest)
  first true true e = refl
  first true false e = cc
  first false true e = cc
  first false false e = refl

  -- a key of the one test only is passed over
  passed : (c b : Bool) → (b ≡ true → c ≡ false)
      → cond c (Some v) (cond b (Some w) rest) ≡ cond b (Some w) (cond c (Some v) rest)
  passed true true apart = let fails = apart refl in cc
  passed true false apart = refl
  passed false true apart = refl
  passed false false apart = refl

module _ {K X : Type 0} (s t : K → Bool) (b : Bool) (w : X) (own : (k : K) → s k ≡ true → t k ≡ b)
    (only : (k : K) → b ≡ true → t k ≡ true → s k ≡ true) where
  -- a key that one of the tests doesn't find isn't of both
  apart : (k : K) → s k ≡ false → b ≡ true → t k ≡ false
  apart k fails holds = false_from_ne_true (t k) (λ p. both_ways (s k) fails (only k holds p))

  -- where the value of a key is set
  lookup_set : (es : List (K × X)) (v : X) → lookup s es ≡ Some v
      → lookup t (set_value s es w) ≡ cond b (Some w) (lookup t es)
  lookup_set [] v found = cc
  lookup_set (e ∷ es) v found = elim (cases_Bool (s e.0)) [
    | inl holds ↦
        ap (λ c. lookup t (cond c ((e.0, w) ∷ es) (e ∷ set_value s es w))) holds
        ∙ first w e.1 (lookup t es) (t e.0) b (own e.0 holds)
    | inr fails ↦
        ap (λ c. lookup t (cond c ((e.0, w) ∷ es) (e ∷ set_value s es w))) fails
        ∙ ap (cond (t e.0) (Some e.1))
        (lookup_set es v (sym (ap (λ c. cond c (Some e.1) (lookup s es)) fails) ∙ found))
        ∙ passed w e.1 (lookup t es) (t e.0) b (apart e.0 fails)
  ]

  -- where an entry is inserted
  module _ (cmp : K → K → Ordering) (k : K) (is_s : (q : K) → is_at (cmp k) q ≡ s q) (is_b : t k ≡ b) where
    -- an entry more is found, however the key compares with the first
    insert_step : (e : K × X) (es new : List (K × X)) → lookup t new ≡ cond b (Some w) (lookup t es)
        → (o : Ordering) → cmp k e.0 ≡ o
        → lookup t (match_ordering o ((k, w) ∷ e ∷ es) ((e.0, w) ∷ es) (e ∷ new))
        ≡ cond b (Some w) (lookup t (e ∷ es))
    insert_step e es new is Less o = ap (λ b. cond b (Some w) (lookup t (e ∷ es))) is_b
    insert_step e es new is Equal o =
        first w e.1 (lookup t es) (t e.0) b (own e.0 (sym (is_s e.0) ∙ ap is_eq o))
    insert_step e es new is Greater o =
        ap (cond (t e.0) (Some e.1)) is
        ∙ passed w e.1 (lookup t es) (t e.0) b (apart e.0 (sym (is_s e.0) ∙ ap is_eq o))

    -- after an insert the key is found with its value, and others as before
    lookup_insert : (es : List (K × X))
        → lookup t (insert_entry cmp es k w) ≡ cond b (Some w) (lookup t es)
    lookup_insert [] = ap (λ b. cond b (Some w) None) is_b
    lookup_insert (e ∷ es) = insert_step e es (insert_entry cmp es k w) (lookup_insert es) (cmp k e.0) refl

-- ---- the amounts of classes

-- the amounts at a key are those that the map finds
pub amounts_found : (es : Entries) (key : ClassKey) (found : Option (Vec ℕ Global))
    → found ≡ lookup (is_at (key_cmp key)) es
    → amounts_at es key.region.items key.servers.items ≡ option_map (λ (v : Vec ℕ Global). v.items) found
amounts_found es key found is =
    ap (option_map (λ (v : Vec ℕ Global). v.items))
    (sym
    (is ∙ lookup_same (is_at (key_cmp key)) (is_key_of key.region.items key.servers.items) (at_key key) es))

-- numbers added to as many zeros
pub added_zeros : (n : ℕ) (ys : List ℕ) → length ys ≡ n → added (replicate n 0) ys ≡ ys
added_zeros zero [] many = refl
added_zeros zero (y ∷ ys) many = absurd (omega arith)
added_zeros (suc n) [] many = absurd (omega arith)
added_zeros (suc n) (y ∷ ys) many = ap₂ (λ z zs. z ∷ zs) (zero-add y) (added_zeros n ys (omega arith))

module _ (old : Entries) (key : ClassKey) (own : Group × List ℕ) (w : Vec ℕ Global)
    (is : w.items ≡ amounts_with own key.servers.items (amounts_at old key.region.items key.servers.items)) where
  -- an entry that has the amounts with the group's flows adds them
  adds : (new : Entries)
      → ((region servers : List ℕ)
      → lookup (is_key_of region servers) new
      ≡ cond (is_key_of region servers key) (Some w) (lookup (is_key_of region servers) old))
      → AddsFlow old key own new
  adds new found region servers = elim (cases_Bool (is_key_of region servers key)) [
    | inl holds ↦
        let same = (both_equal key.region.items region key.servers.items servers).0 holds in
        let amounts : w.items ≡ amounts_with own servers (amounts_at old region servers) =
        is ∙ ap₂ (λ r s. amounts_with own s (amounts_at old r s)) same.0 same.1 in
        ap (option_map (λ (v : Vec ℕ Global). v.items))
        (found region servers ∙ ap (λ b. cond b (Some w) (lookup (is_key_of region servers) old)) holds)
        ∙ ap (λ xs. Some xs) amounts
        ∙ sym
        (ap
        (λ b.
        if b then Some (amounts_with own servers (amounts_at old region servers))
        else amounts_at old region servers) holds)
    | inr fails ↦
        ap (option_map (λ (v : Vec ℕ Global). v.items))
        (found region servers ∙ ap (λ b. cond b (Some w) (lookup (is_key_of region servers) old)) fails)
        ∙ sym
        (ap
        (λ b.
        if b then Some (amounts_with own servers (amounts_at old region servers))
        else amounts_at old region servers) fails)
  ]

  -- keys that compare alike are of the same regions and servers
  alike : (region servers : List ℕ) (k : ClassKey) → is_at (key_cmp key) k ≡ true
      → is_key_of region servers k ≡ is_key_of region servers key
  alike region servers k holds =
      let same = (both_equal k.region.items key.region.items k.servers.items key.servers.items).0
      (sym (at_key key k) ∙ holds) in
      ap₂ (λ r s. bytes_eq r region && bytes_eq s servers) same.0 same.1

  -- keys of one region and servers compare alike
  compared : (region servers : List ℕ) (k : ClassKey) → is_key_of region servers key ≡ true
      → is_key_of region servers k ≡ true → is_at (key_cmp key) k ≡ true
  compared region servers k holds other =
      let one = (both_equal key.region.items region key.servers.items servers).0 holds in
      let two = (both_equal k.region.items region k.servers.items servers).0 other in
      at_key key k
      ∙ (both_equal k.region.items key.region.items k.servers.items key.servers.items).1
      (two.0 ∙ sym one.0, two.1 ∙ sym one.1)

  -- where the key has a value, the new value adds the flow
  pub set_adds : (v : Vec ℕ Global) → lookup (is_at (key_cmp key)) old ≡ Some v
      → AddsFlow old key own (set_value (is_at (key_cmp key)) old w)
  set_adds v there =
      adds (set_value (is_at (key_cmp key)) old w) (λ region servers.
      lookup_set (is_at (key_cmp key)) (is_key_of region servers) (is_key_of region servers key) w
      (alike region servers) (compared region servers) old v there)

  -- and where it has none, so does an insert
  pub insert_adds : AddsFlow old key own (insert_entry key_cmp old key w)
  insert_adds =
      adds (insert_entry key_cmp old key w) (λ region servers.
      lookup_insert (is_at (key_cmp key)) (is_key_of region servers) (is_key_of region servers key) w
      (alike region servers) (compared region servers) key_cmp key (λ q. refl) refl old)
