-- The search for a pair along the chain of its bucket.
use Rattle.std.proofs.Common.{◌≡◌, ◌≢◌, ◌≤◌, ◌<◌, ◌-◌, ◌∙◌, ℕ, suc, List, length, map, Some, None, refl, inl, inr, sym}
use Rattle.std.proofs.Common.{ap, arith, get_or}
use Rattle.std.specs.Prelude.{IfNone, IfSome, Option, Vec, slice_get}
use Rattle.std.specs.declared.alloc.Global.{Global}
use Rattle.std.specs.BTreeMap.{BTreeMap}
use Rattle.std.proofs.lemmas.Bool.{cases_eq, cases_lt}
use Rattle.std.proofs.lemmas.List.{get_or_default}
use Rattle.std.proofs.lemmas.Option.{slice_get-map, slice_get-get_or, slice_get_past}
use Rattle.hsp_pair_map.specs.Chains.{last_of}
use Rattle.hsp_pair_map.specs.Hashing.{bucket_of, hash_of}
use Rattle.hsp_pair_map.specs.Held.{AreHeld, entry_at, no_entry, pair_in}
use Rattle.hsp_pair_map.specs.Ordered.{Named, number_in}
use Rattle.hsp_pair_map.specs.Pairs.{Pair}
use Rattle.hsp_pair_map.specs.declared.pair_map.Entry.{Entry}
use Rattle.hsp_pair_map.proofs.Chaining.{last_within, last_own, last_others}

-- no entry of a bucket from a number on is the pair's, and the entry before the number is in the bucket
pub record IsSearched (octets : List ℕ) (entries : List Entry) (bucket : ℕ → ℕ) (p : Pair)
    (at number : ℕ) : Type 0 where
  pub within : number ≤ length entries
  pub own : (r : ℕ) → number ≡ suc r → bucket r ≡ at
  pub others : (k : ℕ) → number ≤ k → k < length entries → bucket k ≡ at → pair_in octets (entry_at entries k) ≢ p

-- an entry that was read
pub entry_read : (entries : List Entry) (n : ℕ) (e : Entry) → n ≤ length entries → 0 < n → e ≡ get_or entries (n - 1) e
    → (n ≡ suc (n - 1)) × (n - 1 < length entries) × (e ≡ entry_at entries (n - 1))
entry_read entries n e l m read =
    let inside : n - 1 < length entries = omega (arith, l, m) in
    (omega (arith, m), inside, read ∙ get_or_default entries (n - 1) e no_entry inside)

module _ (octets : List ℕ) (entries : List Entry) (lasts : List ℕ) (rest : Named (BTreeMap (Vec ℕ Global) ℕ))
    (held : AreHeld octets entries lasts rest) (p : Pair) (at : ℕ) (inside : at < length lasts) where
  -- the last entry of the bucket
  pub searched_first : (number : ℕ) → number ≡ get_or lasts at number
      → IsSearched octets entries held.bucket p at number
  searched_first number e =
      let last : number ≡ last_of held.bucket at (length entries) =
      e ∙ get_or_default lasts at number 0 inside ∙ held.last at inside in
      record {
        within = rw last (last_within held.bucket at (length entries));
        own = λ r n. last_own held.bucket at (length entries) r (sym last ∙ n);
        others = λ k l m own same. last_others held.bucket at (length entries) k (rw last at l) m own;
      }

  module _ (number r : ℕ) (n : number ≡ suc r) (searched : IsSearched octets entries held.bucket p at number) where
    -- the number behind the entry before in the bucket
    its_before : (entry_at entries r).before ≡ last_of held.bucket at r
    its_before =
        let own = searched.own r n in
        (held.each r (omega (arith, searched.within, n))).before (omega (arith, own, inside))
        ∙ ap (λ b. last_of held.bucket b r) own

    -- which is smaller
    pub before_less : (entry_at entries r).before < suc r
    before_less = rw its_before (omega (arith, last_within held.bucket at r))

    -- the search goes on there, where the entry is not the pair's
    pub searched_next : pair_in octets (entry_at entries r) ≢ p
        → IsSearched octets entries held.bucket p at (entry_at entries r).before
    searched_next differs = record {
      within = rw its_before (omega (arith, last_within held.bucket at r, searched.within, n));
      own = λ s m. last_own held.bucket at r s (sym its_before ∙ m);
      others = λ k l m own. elim (cases_eq k r) [
        | inl same ↦ rw same differs
        | inr apart ↦ elim (cases_lt k r) [
          | inl less ↦ absurd (last_others held.bucket at r k (rw its_before at l) less own)
          | inr more ↦ searched.others k (omega (arith, n, more, apart)) m own
        ]
      ];
    }

  -- the pair of an entry is that of its number
  pub found_there : (r : ℕ) → r < length entries → pair_in octets (entry_at entries r) ≡ p
      → slice_get (map (pair_in octets) entries) r ≡ Some p
  found_there r l same =
      slice_get-map (pair_in octets) entries r ∙ rw (slice_get-get_or entries r no_entry l) (ap Some same)

  -- a pair that is found in order has that number
  pub found_ordered : (o : Option ℕ) → o ≡ number_in rest p
      → IfSome o (λ number. slice_get (map (pair_in octets) entries) number ≡ Some p)
  found_ordered None e = record {}
  found_ordered (Some number) e = let there = held.numbers p number (sym e) in found_there number there.0 there.1

  -- where neither search finds the pair no entry is the pair's
  pub found_nowhere : at ≡ bucket_of (length lasts) (hash_of p) → IsSearched octets entries held.bucket p at 0
      → (o : Option ℕ) → o ≡ number_in rest p
      → IfNone o ((n : ℕ) → slice_get (map (pair_in octets) entries) n ≢ Some p)
  found_nowhere own searched (Some number) e = record {}
  found_nowhere own searched None e = λ n f. elim (cases_lt n (length entries)) [
    | inl l ↦
        let there : Some (pair_in octets (entry_at entries n)) ≡ Some p =
        sym (slice_get-map (pair_in octets) entries n ∙ rw (slice_get-get_or entries n no_entry l) refl) ∙ f in
        let same : pair_in octets (entry_at entries n) ≡ p = cc in
        searched.others n (omega arith) l
        ((held.each n l).own (ap (number_in rest) same ∙ sym e) ∙ ap (λ q. bucket_of (length lasts) (hash_of q)) same
        ∙ sym own) same
    | inr past ↦
        let none : slice_get (map (pair_in octets) entries) n ≡ None =
        slice_get-map (pair_in octets) entries n ∙ rw (slice_get_past entries n past) refl in
        absurd cc
  ]
