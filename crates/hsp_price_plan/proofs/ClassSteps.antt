-- What goes to the servers of each class, with the flows of one group more.
use Rattle.std.proofs.Common.{◌≡◌, ℕ, ◌+◌, ◌<◌, ◌≤◌, ◌^◌, ◌∙◌, inl, inr, Bool, true, false, List, [], ◌∷◌}
use Rattle.std.proofs.Common.{add-zero, zero-add, ◌++◌, length, map, sum, refl, ap, ap₂, sym, subst, arith}
use Rattle.std.specs.Option.{ForSome}
use Rattle.std.specs.Prelude.{All, MatchOption, Option, Some, None, if◌then◌else◌}
use Rattle.std.specs.List.{list_any}
use Rattle.std.proofs.lemmas.Bool.{both_ways, cases_Bool, false_from_ne_true, or_from, or_left, or_right}
use Rattle.std.proofs.lemmas.List.{length-map}
use Rattle.std.proofs.lemmas.List.Elements.{All-from_recursion}
use Rattle.std.specs.List.{AllByRecursion}
use Rattle.std.proofs.lemmas.List.Folds.{list_any-append}
use Rattle.hsp_instance.specs.declared.arc.Arc.{Arc}
use Rattle.hsp_prices.proofs.Tabling.{both_equal}
use Rattle.hsp_prices.specs.Groups.{Group}
use Rattle.hsp_prices.specs.Solved.{flow_to, least_servers_by}
use Rattle.hsp_price_plan.specs.ClassSums.{AddsFlow, AreSums, Entries, HasRoom, IsAbsent, IsSum, added, amounts_at}
use Rattle.hsp_price_plan.specs.ClassSums.{amounts_with, is_key_of, is_of_class, sent_where, total_of}
use Rattle.hsp_price_plan.specs.declared.classes.ClassKey.{ClassKey}
use Rattle.hsp_price_plan.proofs.SentFlows.{where_more, where_none, where_within}

-- two functions of a list's elements, added up
added_maps : (f g : ℕ → ℕ) (xs : List ℕ) → added (map f xs) (map g xs) ≡ map (λ x. f x + g x) xs
added_maps f g [] = refl
added_maps f g (x ∷ xs) = ap (λ ys. (f x + g x) ∷ ys) (added_maps f g xs)

-- functions that agree make the same list
map_alike : (f g : ℕ → ℕ) → ((x : ℕ) → f x ≡ g x) → (xs : List ℕ) → map f xs ≡ map g xs
map_alike f g same [] = refl
map_alike f g same (x ∷ xs) = ap₂ (λ y ys. y ∷ ys) (same x) (map_alike f g same xs)

-- what holds of each value of a function holds of the list
all_mapped : (P : ℕ → Type 0) (f : ℕ → ℕ) → ((x : ℕ) → P (f x)) → (xs : List ℕ) → AllByRecursion P (map f xs)
all_mapped P f each [] = tt
all_mapped P f each (x ∷ xs) = (each x, all_mapped P f each xs)

module _ (pay : Arc → ℕ) (sent : List (Group × List ℕ)) (own : Group × List ℕ) (region servers : List ℕ) where
  abbrev is_of : Group × List ℕ → Bool
  is_of sent = is_of_class pay region servers sent.0

  -- a group of another class changes nothing
  step_other : (before : Option (List ℕ)) → (2 ≤ length servers → is_of own ≡ false)
      → MatchOption before (IsAbsent pay sent region servers) (IsSum pay sent region servers)
      → MatchOption before (IsAbsent pay (sent ++ own ∷ []) region servers)
      (IsSum pay (sent ++ own ∷ []) region servers)
  step_other None other absent = λ two.
      list_any-append is_of sent (own ∷ [])
      ∙ or_from (list_any is_of sent) (list_any is_of (own ∷ [])) (absent two)
      (or_from (is_of own) false (other two) refl)
  step_other (Some amounts) other is = record {
    several = is.several;
    used =
        list_any-append is_of sent (own ∷ [])
        ∙ or_left (list_any is_of sent) (list_any is_of (own ∷ [])) is.used;
    sums =
        is.sums
        ∙ map_alike (sent_where (is_of_class pay region servers) sent)
        (sent_where (is_of_class pay region servers) (sent ++ own ∷ [])) (λ j.
        sym
        (where_more (is_of_class pay region servers) sent own j
        ∙ ap (λ b. sent_where (is_of_class pay region servers) sent j + (if b then flow_to j own else 0))
        (other is.several)
        ∙ add-zero (sent_where (is_of_class pay region servers) sent j))) servers;
  }

  -- what a class sends with one of its groups more
  module _ (own_is : is_of own ≡ true) where
    -- with one more of the class its flow is added
    with_own : (j : ℕ)
        → sent_where (is_of_class pay region servers) (sent ++ own ∷ []) j
        ≡ sent_where (is_of_class pay region servers) sent j + flow_to j own
    with_own j =
        where_more (is_of_class pay region servers) sent own j
        ∙ ap (λ b. sent_where (is_of_class pay region servers) sent j + (if b then flow_to j own else 0)) own_is

    -- the class has a part then
    used_now : list_any is_of (sent ++ own ∷ []) ≡ true
    used_now =
        list_any-append is_of sent (own ∷ [])
        ∙ or_right (list_any is_of sent) (list_any is_of (own ∷ [])) (or_left (is_of own) false own_is)

    -- a group of the class adds its flows
    step_same : (before : Option (List ℕ)) → 2 ≤ length servers
        → MatchOption before (IsAbsent pay sent region servers) (IsSum pay sent region servers)
        → IsSum pay (sent ++ own ∷ []) region servers (amounts_with own servers before)
    step_same None two absent = record {
      several = two;
      used = used_now;
      sums =
          map_alike (λ j. flow_to j own) (sent_where (is_of_class pay region servers) (sent ++ own ∷ [])) (λ j.
          sym
          (with_own j
          ∙ ap (λ n. n + flow_to j own) (where_none (is_of_class pay region servers) sent j (absent two))
          ∙ zero-add (flow_to j own))) servers;
    }
    step_same (Some amounts) two is = record {
      several = two;
      used = used_now;
      sums =
          ap (λ xs. added xs (map (λ j. flow_to j own) servers)) is.sums
          ∙ added_maps (sent_where (is_of_class pay region servers) sent) (λ j. flow_to j own) servers
          ∙ map_alike (λ j. sent_where (is_of_class pay region servers) sent j + flow_to j own)
          (sent_where (is_of_class pay region servers) (sent ++ own ∷ [])) (λ j. sym (with_own j)) servers;
    }

module _ (pay : Arc → ℕ) (sent : List (Group × List ℕ)) (own : Group × List ℕ) (old : Entries)
    (are : AreSums pay sent old) where
  -- a group with fewer than two least servers is of no class
  pub sums_skipped : length (least_servers_by pay own.0) < 2 → AreSums pay (sent ++ own ∷ []) old
  sums_skipped few region servers =
      step_other pay sent own region servers (amounts_at old region servers) (λ two.
      false_from_ne_true (is_of_class pay region servers own.0) (λ t.
      let same = (both_equal region own.0.region servers (least_servers_by pay own.0)).0 t in
      let long : length servers ≡ length (least_servers_by pay own.0) = ap (λ (xs : List ℕ). length xs) same.1 in
      absurd (omega (arith, long)))) (are region servers)

  module _ (key : ClassKey) (region_is : key.region.items ≡ own.0.region)
      (servers_are : key.servers.items ≡ least_servers_by pay own.0) where
    -- a group with two or more adds its flows to its class
    pub sums_more : (new : Entries) → 2 ≤ length (least_servers_by pay own.0) → AddsFlow old key own new
        → AreSums pay (sent ++ own ∷ []) new
    sums_more new two adds region servers = elim (cases_Bool (is_key_of region servers key)) [
      | inl t ↦
          let same = (both_equal key.region.items region key.servers.items servers).0 t in
          let own_is : is_of_class pay region servers own.0 ≡ true =
          (both_equal region own.0.region servers (least_servers_by pay own.0)).1
          (sym same.0 ∙ region_is, sym same.1 ∙ servers_are) in
          let long : length servers ≡ length (least_servers_by pay own.0) =
          ap (λ (xs : List ℕ). length xs) (sym same.1 ∙ servers_are) in
          subst
          (λ o. MatchOption o (IsAbsent pay (sent ++ own ∷ []) region servers)
          (IsSum pay (sent ++ own ∷ []) region servers))
          (sym
          (adds region servers
          ∙ ap
          (λ b.
          if b then Some (amounts_with own servers (amounts_at old region servers))
          else amounts_at old region servers) t))
          (step_same pay sent own region servers own_is (amounts_at old region servers) (omega (arith, long))
          (are region servers))
      | inr f ↦
          subst
          (λ o. MatchOption o (IsAbsent pay (sent ++ own ∷ []) region servers)
          (IsSum pay (sent ++ own ∷ []) region servers))
          (sym
          (adds region servers
          ∙ ap
          (λ b.
          if b then Some (amounts_with own servers (amounts_at old region servers))
          else amounts_at old region servers) f))
          (step_other pay sent own region servers (amounts_at old region servers) (λ two.
          false_from_ne_true (is_of_class pay region servers own.0) (λ t.
          let same = (both_equal region own.0.region servers (least_servers_by pay own.0)).0 t in
          both_ways (is_key_of region servers key) f
          ((both_equal key.region.items region key.servers.items servers).1
          (region_is ∙ sym same.0, servers_are ∙ sym same.1)))) (are region servers))
    ]

    -- the amounts of its class have room for them
    pub has_room : total_of sent + sum own.1 < 2 ^ 64 → HasRoom old key (sum own.1)
    has_room less = room (amounts_at old key.region.items key.servers.items) (are key.region.items key.servers.items)
      where
        room : (before : Option (List ℕ))
            → MatchOption before (IsAbsent pay sent key.region.items key.servers.items)
            (IsSum pay sent key.region.items key.servers.items)
            → ForSome before
            (λ amounts.
            (length amounts ≡ length key.servers.items) × All (λ amount. amount + sum own.1 < 2 ^ 64) amounts)
        room before h amounts is =
            let own_sum : IsSum pay sent key.region.items key.servers.items amounts =
            subst
            (λ o. MatchOption o (IsAbsent pay sent key.region.items key.servers.items)
            (IsSum pay sent key.region.items key.servers.items)) is h in
            let test = is_of_class pay key.region.items key.servers.items in (
              ap (λ (xs : List ℕ). length xs) own_sum.sums
                  ∙ length-map key.servers.items (sent_where test sent),
              subst (All (λ amount. amount + sum own.1 < 2 ^ 64)) (sym own_sum.sums)
                  (All-from_recursion (λ amount. amount + sum own.1 < 2 ^ 64)
                  (map (sent_where test sent) key.servers.items)
                  (all_mapped (λ amount. amount + sum own.1 < 2 ^ 64) (sent_where test sent)
                  (λ j. omega (arith, where_within test sent j)) key.servers.items)),
            )
