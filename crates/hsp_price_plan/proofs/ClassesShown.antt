-- The sums of all groups are those of classes.
use Rattle.std.proofs.Common.{◌≡◌, ℕ, zero, suc, ◌<◌, ◌≤◌, ◌∙◌, ◌&&◌, true, false, List, [], ◌∷◌, length, map}
use Rattle.std.proofs.Common.{slice_index_or, inl, inr, refl, ap, ap₂, sym, subst, arith}
use Rattle.std.specs.Prelude.{IfOk, Result, Ok, Err, MatchOption, Option, Some, None, Vec, cond, option_map, slice_get}
use Rattle.std.specs.declared.alloc.Global.{Global}
use Rattle.std.specs.declared.cmp.Ordering.TheVariants.{Less}
use Rattle.std.specs.BTreeMap.{is_at}
use Rattle.std.specs.List.{AllByRecursion, list_any}
use Rattle.std.specs.List.Sorted.{IsStrictlySortedBy}
use Rattle.std.specs.Map.{keys_of, lookup}
use Rattle.std.specs.Ordering.{is_eq, is_lt, eq_by_cmp}
use Rattle.std.specs.Str.{bytes_eq}
use Rattle.std.proofs.lemmas.Bool.{both_ways, cases_Bool, false_from_ne_true, or_left, or_right}
use Rattle.std.proofs.lemmas.Cmp.{eq_by_cmp_equiv, nat_list_cmp_total, on_total, then_total}
use Rattle.std.specs.Cmp.{IsTotalOrder}
use Rattle.std.proofs.lemmas.List.Elements.{All-from_recursion}
use Rattle.std.proofs.lemmas.List.Folds.{list_any_at}
use Rattle.std.proofs.lemmas.Map.Entries.{lookup_from_place}
use Rattle.std.proofs.lemmas.Map.Keys.{IsDistinct-from_sorted, sorted_head, sorted_tail}
use Rattle.hsp_cert.specs.Certificate.{ascends, ascends_from}
use Rattle.hsp_instance.specs.declared.arc.Arc.{Arc}
use Rattle.hsp_prices.proofs.Tabling.{both_equal}
use Rattle.hsp_price_text.specs.Claim.{Class, is_before}
use Rattle.hsp_prices.specs.Groups.{Group}
use Rattle.hsp_prices.specs.Solved.{AreClassesBy, HasClassBy, is_part_by, is_same, least_servers_by, sent_to}
use Rattle.hsp_price_plan.specs.ClassSums.{AreSums, Entries, IsAbsent, IsSum, class_of, is_key_of, is_of_class}
use Rattle.hsp_price_plan.specs.ClassSums.{has_group, key_cmp, sent_of}
use Rattle.hsp_price_plan.specs.declared.classes.ClassKey.{ClassKey}
use Rattle.hsp_price_plan.proofs.ClassEntries.{at_key, lookup_same}
use Rattle.hsp_price_plan.proofs.SentFlows.{any_sent}

-- a key with its amounts
abbrev Entry : Type 0
Entry = ClassKey × Vec ℕ Global

-- the order of keys is total
key_total : IsTotalOrder key_cmp
key_total =
    then_total (on_total (λ (k : ClassKey). k.region.items) nat_list_cmp_total)
    (on_total (λ (k : ClassKey). k.servers.items) nat_list_cmp_total)

-- a class comes before one whose key is above its own
before_later : (e later : Entry) → key_cmp e.0 later.0 ≡ Less → is_before (class_of e) (class_of later) ≡ true
before_later e later less = ap is_lt less

-- and is another one
apart_from_later : (e later : Entry) → key_cmp e.0 later.0 ≡ Less → is_same (class_of e) (class_of later) ≡ false
apart_from_later e later less =
    false_from_ne_true (is_same (class_of e) (class_of later)) (λ t.
    let same = (both_equal e.0.region.items later.0.region.items e.0.servers.items later.0.servers.items).0 t in
    let alike : is_at (key_cmp e.0) later.0 ≡ true =
    at_key e.0 later.0
    ∙ (both_equal later.0.region.items e.0.region.items later.0.servers.items e.0.servers.items).1
    (sym same.0, sym same.1) in
    both_ways (is_at (key_cmp e.0) later.0) (ap is_eq less) alike)

-- so the classes of entries in order are in order
in_order : (last : Option Entry) (es : Entries)
    → MatchOption last (Unit {0}) (λ e. AllByRecursion (λ (k : ClassKey). key_cmp e.0 k ≡ Less) (keys_of es))
    → IsStrictlySortedBy key_cmp (keys_of es)
    → ascends_from is_before (option_map class_of last) (map class_of es) ≡ true
in_order last [] above sorted = refl
in_order None (e ∷ es) above sorted =
    in_order (Some e) es (sorted_head key_cmp e.0 (keys_of es) sorted) (sorted_tail key_cmp e.0 (keys_of es) sorted)
in_order (Some last) (e ∷ es) above sorted =
    ap₂ (λ a b. a && b) (before_later last e above.0)
    (in_order (Some e) es (sorted_head key_cmp e.0 (keys_of es) sorted)
    (sorted_tail key_cmp e.0 (keys_of es) sorted))

-- a class is apart from those of later entries
each_apart : (e : Entry) (es : Entries) (j : ℕ) (d : Class) → j < length (map class_of es)
    → AllByRecursion (λ (k : ClassKey). key_cmp e.0 k ≡ Less) (keys_of es)
    → is_same (class_of e) (slice_index_or (map class_of es) j d) ≡ false
each_apart e [] j d l above = absurd (omega arith)
each_apart e (later ∷ es) zero d l above = apart_from_later e later above.0
each_apart e (later ∷ es) (suc j) d l above = each_apart e es j d (omega arith) above.1

-- so no two classes are the same
all_apart : (es : Entries) → IsStrictlySortedBy key_cmp (keys_of es) → (i j : ℕ) (d : Class) → i < j
    → j < length (map class_of es)
    → is_same (slice_index_or (map class_of es) i d) (slice_index_or (map class_of es) j d) ≡ false
all_apart [] sorted i j d less l = absurd (omega arith)
all_apart (e ∷ es) sorted i zero d less l = absurd (omega arith)
all_apart (e ∷ es) sorted zero (suc j) d less l =
    each_apart e es j d (omega arith) (sorted_head key_cmp e.0 (keys_of es) sorted)
all_apart (e ∷ es) sorted (suc i) (suc j) d less l =
    all_apart es (sorted_tail key_cmp e.0 (keys_of es) sorted) i j d (omega arith) (omega arith)

-- what holds of the class of each entry holds of all classes
all_classes : (P : Class → Type 0) (es : Entries)
    → ((i : ℕ) (k : ClassKey) (v : Vec ℕ Global) → slice_get es i ≡ Some (k, v) → P (class_of (k, v)))
    → AllByRecursion P (map class_of es)
all_classes P [] each = tt
all_classes P (e ∷ es) each = (each 0 e.0 e.1 refl, all_classes P es (λ i k v is. each (suc i) k v is))

-- a class of what a look-up finds
some_class : (region servers : List ℕ) (es : Entries) (v : Vec ℕ Global)
    → lookup (is_key_of region servers) es ≡ Some v
    → list_any (λ (class : Class). bytes_eq class.region region && bytes_eq class.servers servers) (map class_of es)
    ≡ true
some_class region servers [] v found = cc
some_class region servers (e ∷ es) v found = elim (cases_Bool (is_key_of region servers e.0)) [
  | inl t ↦
      or_left (is_key_of region servers e.0)
      (list_any (λ (class : Class). bytes_eq class.region region && bytes_eq class.servers servers) (map class_of es))
      t
  | inr f ↦
      or_right (is_key_of region servers e.0)
      (list_any (λ (class : Class). bytes_eq class.region region && bytes_eq class.servers servers) (map class_of es))
      (some_class region servers es v
      (sym (ap (λ c. cond c (Some e.1) (lookup (is_key_of region servers) es)) f) ∙ found))
]

module _ (pay : Arc → ℕ) (groups : List Group) (flows : List ℕ) (es : Entries)
    (are : AreSums pay (sent_of groups flows) es) (sorted : IsStrictlySortedBy key_cmp (keys_of es)) where
  -- the sums of an entry are those of its class
  entry_sum : (i : ℕ) (k : ClassKey) (v : Vec ℕ Global) → slice_get es i ≡ Some (k, v)
      → IsSum pay (sent_of groups flows) k.region.items k.servers.items v.items
  entry_sum i k v is =
      let found : lookup (eq_by_cmp key_cmp k) es ≡ Some v =
      lookup_from_place (eq_by_cmp_equiv key_total) es i k v (IsDistinct-from_sorted key_cmp (keys_of es) sorted)
      is in
      let here : lookup (is_key_of k.region.items k.servers.items) es ≡ Some v =
      sym (lookup_same (eq_by_cmp key_cmp k) (is_key_of k.region.items k.servers.items) (at_key k) es) ∙ found in
      subst
      (λ o. MatchOption o (IsAbsent pay (sent_of groups flows) k.region.items k.servers.items)
      (IsSum pay (sent_of groups flows) k.region.items k.servers.items))
      (ap (option_map (λ (v : Vec ℕ Global). v.items)) here) (are k.region.items k.servers.items)

  -- a group with several least servers has a class
  has_class : (i : ℕ) (d : Group) → i < length groups → 2 ≤ length (least_servers_by pay (slice_index_or groups i d))
      → list_any (λ (class : Class). is_part_by pay class (slice_index_or groups i d)) (map class_of es) ≡ true
  has_class i d l two =
      found (lookup (is_key_of group.region (least_servers_by pay group)) es) refl
      (are group.region (least_servers_by pay group))
    where
      group : Group
      group = slice_index_or groups i d

      there : has_group pay (sent_of groups flows) group.region (least_servers_by pay group) ≡ true
      there =
          any_sent (is_of_class pay group.region (least_servers_by pay group)) groups flows
          ∙ list_any_at (is_of_class pay group.region (least_servers_by pay group)) groups i d l
          ((both_equal group.region group.region (least_servers_by pay group) (least_servers_by pay group)).1
          (refl, refl))

      found : (o : Option (Vec ℕ Global)) → lookup (is_key_of group.region (least_servers_by pay group)) es ≡ o
          → MatchOption (option_map (λ (v : Vec ℕ Global). v.items) o)
          (IsAbsent pay (sent_of groups flows) group.region (least_servers_by pay group))
          (IsSum pay (sent_of groups flows) group.region (least_servers_by pay group))
          → list_any (λ (class : Class). is_part_by pay class group) (map class_of es) ≡ true
      found None is absent =
          absurd
          (both_ways (has_group pay (sent_of groups flows) group.region (least_servers_by pay group)) (absent two)
          there)
      found (Some v) is sum = some_class group.region (least_servers_by pay group) es v is

  -- so it is placed
  placed_at : (least : List ℕ) (group : Group)
      → (2 ≤ length least
      → list_any (λ (class : Class). is_part_by pay class group) (map class_of es) ≡ true)
      → HasClassBy pay (map class_of es) group least
  placed_at [] group has = tt
  placed_at (j ∷ []) group has = tt
  placed_at (j ∷ k ∷ more) group has = has (omega arith)

  -- the sums are those of classes
  pub are_classes : AreClassesBy pay groups flows (map class_of es)
  are_classes = record {
    placed = λ i d l.
        placed_at (least_servers_by pay (slice_index_or groups i d)) (slice_index_or groups i d)
        (λ two. has_class i d l two);
    used =
        All-from_recursion _ (map class_of es)
        (all_classes (λ class. list_any (λ group. is_part_by pay class group) groups ≡ true) es (λ i k v is.
        sym (any_sent (is_of_class pay k.region.items k.servers.items) groups flows) ∙ (entry_sum i k v is).used));
    several =
        All-from_recursion _ (map class_of es)
        (all_classes (λ class. 2 ≤ length class.servers) es (λ i k v is. (entry_sum i k v is).several));
    apart = all_apart es sorted;
    amounts =
        All-from_recursion _ (map class_of es)
        (all_classes (λ class. class.amounts ≡ map (sent_to pay (sent_of groups flows) class) class.servers) es
        (λ i k v is. (entry_sum i k v is).sums));
  }

  -- they are in the order of a text
  pub are_in_order : ascends is_before (map class_of es) ≡ true
  are_in_order = in_order None es tt sorted

-- two facts of what is returned, if anything is, make a third
pub if_both_ok : {A E : Type 0} (P Q R : A → Type 0) → ((x : A) → P x → Q x → R x) → (r : Result A E)
    → IfOk r P → IfOk r Q → IfOk r R
if_both_ok P Q R both (Ok x) p q = both x p q
if_both_ok P Q R both (Err e) p q = tt
