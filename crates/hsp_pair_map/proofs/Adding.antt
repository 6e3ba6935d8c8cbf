-- A pair that is added: its octets behind those of the others, and its entry as the last of its bucket.
use Rattle.std.proofs.Common.{◌≡◌, ◌≢◌, ◌⊎◌, ◌≤◌, ◌<◌, ◌+◌, ◌-◌, ◌^◌, ◌∙◌, ◌++◌, ◌∷◌, [], ℕ, suc, List, length, map}
use Rattle.std.proofs.Common.{take, drop}
use Rattle.std.proofs.Common.{append_assoc, refl, sym, subst, ap, inl, inr, arith}
use Rattle.std.specs.Prelude.{Err, IfErr, None, Ok, OnErr, OnOk, Result, Some, Vec, nat_lt, if◌then◌else◌}
use Rattle.std.specs.Prelude.{slice_index, slice_set}
use Rattle.std.specs.declared.alloc.Global.{Global}
use Rattle.std.specs.BTreeMap.{BTreeMap}
use Rattle.std.proofs.lemmas.Bool.{cases_eq, eq-eqb, le-ltb, lt-ltb, ne_eqb}
use Rattle.std.proofs.lemmas.List.{get_or_append_left, get_or_push, get_or-set_same, get_or-set_other}
use Rattle.std.proofs.lemmas.List.{length-set, length-append, length-drop, length_push, map-append, take-append-le}
use Rattle.std.proofs.lemmas.List.{take_all, drop-append-le}
use Rattle.std.proofs.Math.Seq.{take-append_seam}
use Rattle.std.proofs.lemmas.List.Prefix.{front_rest}
use Rattle.hsp_pair_map.specs.Chains.{count_of, last_of}
use Rattle.hsp_pair_map.specs.Hashing.{bucket_of, hash_of, mark_of}
use Rattle.hsp_pair_map.specs.Held.{AreHeld, IsHeld, IsSpan, entry_at, no_entry, pair_in}
use Rattle.hsp_pair_map.specs.Ordered.{Named, number_in}
use Rattle.hsp_pair_map.specs.Pairs.{Pair}
use Rattle.hsp_pair_map.specs.declared.pair_map.Entry.{Entry}
use Rattle.hsp_pair_map.specs.declared.pair_map.TheConstants.{LONGEST_CHAIN}
use Rattle.hsp_pair_map.proofs.Chaining.{count_alike, count_last, count_none, last_alike, last_own, last_within}
use Rattle.hsp_pair_map.proofs.Ordering.{pair_cases}

-- octets within a run, where more follow
within_more : (a b : ℕ) (xs ys : List ℕ) → a ≤ b → b ≤ length xs
    → take (b - a) (drop a (xs ++ ys)) ≡ take (b - a) (drop a xs)
within_more a b xs ys l m =
    rw (drop-append-le a xs ys (omega (arith, l, m)))
    (take-append-le (b - a) (drop a xs) ys (omega (arith, length-drop a xs, l, m)))

-- the pair of an entry stays where more octets follow
pair_kept : (xs ys : List ℕ) (e : Entry) → IsSpan xs e → pair_in (xs ++ ys) e ≡ pair_in xs e
pair_kept xs ys e span =
    rw (
      within_more e.start e.cut xs ys span.first (omega (arith, span.second, span.within)),
      within_more e.cut e.end xs ys span.second span.within,
    ) refl

-- pairs whose octets lie in the text stay when more octets come behind it
pairs_kept : (xs ys : List ℕ) (entries : List Entry) → ((k : ℕ) → k < length entries → IsSpan xs (entry_at entries k))
    → map (pair_in (xs ++ ys)) entries ≡ map (pair_in xs) entries
pairs_kept xs ys [] spans = refl
pairs_kept xs ys (e ∷ entries) spans =
    rw (pair_kept xs ys e (spans 0 (omega arith)), pairs_kept xs ys entries (λ k l. spans (suc k) (omega (arith, l))))
    refl

-- further octets change nothing
module _ (xs ys : List ℕ) (entries : List Entry) (lasts : List ℕ) (rest : Named (BTreeMap (Vec ℕ Global) ℕ))
    (held : AreHeld xs entries lasts rest) where
  -- the old entries are held by the longer text
  pub held_still : AreHeld (xs ++ ys) entries lasts rest
  held_still = record {
    bucket = held.bucket;
    some = held.some;
    buckets = held.buckets;
    few = held.few;
    each = λ k l.
        let one = held.each k l in
        let same = pair_kept xs ys (entry_at entries k) one.span in
        record {
          span = record {
            first = one.span.first;
            second = one.span.second;
            within = omega (arith, one.span.within, length-append xs ys);
          };
          mark = rw same one.mark;
          own = subst (λ q. number_in rest q ≡ None → held.bucket k ≡ bucket_of (length lasts) (hash_of q)) (sym same)
              one.own;
          before = one.before;
          depth = one.depth;
          short = one.short;
        };
    last = held.last;
    numbers = λ p n e.
        let there = held.numbers p n e in
        (there.0, pair_kept xs ys (entry_at entries n) (held.each n there.0).span ∙ there.1);
  }

  -- the old pairs are read from the longer text
  pub pairs_still : map (pair_in (xs ++ ys)) entries ≡ map (pair_in xs) entries
  pairs_still = pairs_kept xs ys entries (λ k l. (held.each k l).span)

-- other pairs in order that have the same numbers change nothing
pub held_alike : (octets : List ℕ) (entries : List Entry) (lasts : List ℕ)
    (old new : Named (BTreeMap (Vec ℕ Global) ℕ)) → ((p : Pair) → number_in new p ≡ number_in old p)
    → AreHeld octets entries lasts old → AreHeld octets entries lasts new
held_alike octets entries lasts old new same held = record {
  bucket = held.bucket;
  some = held.some;
  buckets = held.buckets;
  few = held.few;
  each = λ k l.
      let one = held.each k l in
      record {
        span = one.span;
        mark = one.mark;
        own = λ e. one.own (sym (same (pair_in octets (entry_at entries k))) ∙ e);
        before = one.before;
        depth = one.depth;
        short = one.short;
      };
  last = held.last;
  numbers = λ p n e. held.numbers p n (sym (same p) ∙ e);
}

-- the last entry of a bucket, and how many the bucket has
module _ (octets : List ℕ) (entries : List Entry) (lasts : List ℕ) (rest : Named (BTreeMap (Vec ℕ Global) ℕ))
    (held : AreHeld octets entries lasts rest) (b : ℕ) (inside : b < length lasts) (last : ℕ)
    (is : last ≡ slice_index lasts b) where
  -- the number is that of the bucket's last entry
  its_last : last ≡ last_of held.bucket b (length entries)
  its_last = is ∙ held.last b inside

  -- there is an entry before the number
  pub last_inside : last ≤ length entries
  last_inside = rw its_last (last_within held.bucket b (length entries))

  -- which has few before it
  pub last_short : 0 < last → (entry_at entries (last - 1)).depth < LONGEST_CHAIN
  last_short l = (held.each (last - 1) (omega (arith, last_inside, l))).short

  -- the length of its chain
  pub chain_counted : (depth : ℕ) → (last ≡ 0 → depth ≡ 0)
      → (0 < last → depth ≡ (entry_at entries (last - 1)).depth + 1) → depth ≡ count_of held.bucket b (length entries)
  chain_counted depth none some = elim (cases_eq last 0) [
    | inl e ↦ none e ∙ sym (count_none held.bucket b (length entries) (sym its_last ∙ e))
    | inr ne ↦
        let more : 0 < last = omega (arith, ne) in
        let r = last - 1 in
        let next : last ≡ suc r = omega (arith, more) in
        let own : held.bucket r ≡ b = last_own held.bucket b (length entries) r (sym its_last ∙ next) in
        let one = held.each r (omega (arith, last_inside, more)) in
        some more
        ∙ (omega (
          arith,
          rw own at (one.depth (omega (arith, own, inside))),
          count_last held.bucket b (length entries) r (sym its_last ∙ next),
        ))
  ]

-- a function with another value from a place on
with_last : (ℕ → ℕ) → ℕ → ℕ → ℕ → ℕ
with_last bucket n b k = if nat_lt k n then bucket k else b

-- an entry more, which belongs to a bucket or to none
module _ (octets : List ℕ) (entries : List Entry) (lasts : List ℕ) (old : Named (BTreeMap (Vec ℕ Global) ℕ))
    (held : AreHeld octets entries lasts old)
    (e : Entry) (span : IsSpan octets e) (mark : e.mark ≡ mark_of (hash_of (pair_in octets e)))
    (b : ℕ) (new : Named (BTreeMap (Vec ℕ Global) ℕ))
    (own : number_in new (pair_in octets e) ≡ None → b ≡ bucket_of (length lasts) (hash_of (pair_in octets e)))
    (before : b < length lasts → e.before ≡ last_of held.bucket b (length entries))
    (depth : b < length lasts → e.depth ≡ count_of held.bucket b (length entries))
    (short : e.depth < LONGEST_CHAIN) (few : length entries + 1 < 2 ^ 32)
    (sooner : (p : Pair) → number_in new p ≡ None → number_in old p ≡ None)
    (numbers : (p : Pair) (n : ℕ) → number_in new p ≡ Some n
    → (number_in old p ≡ Some n) ⊎ ((n ≡ length entries) × (pair_in octets e ≡ p))) where
  abbrev more : List Entry
  more = entries ++ e ∷ []

  abbrev now : ℕ → ℕ
  now = with_last held.bucket (length entries) b

  -- old entries keep their buckets
  same_buckets : (k : ℕ) → k < length entries → now k ≡ held.bucket k
  unfolding with_last
  same_buckets k l = rw (lt-ltb k (length entries) l) refl

  -- the new one has its own
  its_bucket : now (length entries) ≡ b
  unfolding with_last
  its_bucket = rw (le-ltb (length entries) (length entries) (omega arith)) refl

  -- the entries before the new one stay
  old_entry : (k : ℕ) → k < length entries → entry_at more k ≡ entry_at entries k
  old_entry k l = get_or_append_left entries (e ∷ []) no_entry k l

  -- the last entry is the new one
  new_entry : entry_at more (length entries) ≡ e
  new_entry = get_or_push entries e no_entry (length entries) refl

  -- each entry, the new one too, is held with the right entry before it
  each : (k : ℕ) → k < length more → IsHeld octets more new now (length lasts) k
  each k l = elim (cases_eq k (length entries)) [
    | inl last ↦ rw last (record {
      span = rw new_entry span;
      mark = rw new_entry mark;
      own = rw (new_entry, its_bucket) own;
      before = rw (new_entry, its_bucket) (λ i.
          before i ∙ sym (last_alike now held.bucket b (length entries) same_buckets));
      depth = rw (new_entry, its_bucket) (λ i.
          depth i ∙ sym (count_alike now held.bucket b (length entries) same_buckets));
      short = rw new_entry short;
    })
    | inr other ↦
        let inside : k < length entries = omega (arith, l, length_push entries e, other) in
        let one = held.each k inside in
        let alike : (j : ℕ) → j < k → now j ≡ held.bucket j = λ j m. same_buckets j (omega (arith, m, inside)) in
        record {
          span = rw (old_entry k inside) one.span;
          mark = rw (old_entry k inside) one.mark;
          own = rw (old_entry k inside, same_buckets k inside) (λ none.
              one.own (sooner (pair_in octets (entry_at entries k)) none));
          before = rw (old_entry k inside, same_buckets k inside) (λ i.
              one.before i ∙ sym (last_alike now held.bucket (held.bucket k) k alike));
          depth = rw (old_entry k inside, same_buckets k inside) (λ i.
              one.depth i ∙ sym (count_alike now held.bucket (held.bucket k) k alike));
          short = rw (old_entry k inside) one.short;
        }
  ]

  -- the numbers of pairs in order are theirs
  numbered : (p : Pair) (n : ℕ) → number_in new p ≡ Some n
      → (n < length more) × (pair_in octets (entry_at more n) ≡ p)
  numbered p n f = elim (numbers p n f) [
    | inl there ↦
        let one = held.numbers p n there in
        (omega (arith, one.0, length_push entries e), rw (old_entry n one.0) one.1)
    | inr here ↦ (omega (arith, here.0, length_push entries e), rw (here.0, new_entry) here.1)
  ]

  -- the longer list of entries is held, where each bucket names its last entry
  held_more : (ends : List ℕ) → length ends ≡ length lasts
      → ((a : ℕ) → a < length lasts → slice_index ends a ≡ last_of now a (suc (length entries)))
      → AreHeld octets more ends new
  held_more ends many last = record {
    bucket = now;
    some = rw many held.some;
    buckets = rw many held.buckets;
    few = omega (arith, few, length_push entries e);
    each = λ k l. rw many (each k l);
    last = λ a l.
        let long : length more ≡ suc (length entries) = omega (arith, length_push entries e) in
        rw long (last a (rw many at l));
    numbers = numbered;
  }

  -- the entry of a bucket is its last one
  pub held_chained : b < length lasts → AreHeld octets more (slice_set lasts b (length entries + 1)) new
  unfolding last_of
  held_chained inside =
      held_more (slice_set lasts b (length entries + 1)) (length-set lasts b (length entries + 1)) (λ a l.
      elim (cases_eq a b) [
        | inl same ↦
            rw (same, its_bucket, eq-eqb b b refl)
            (get_or-set_same lasts b (length entries + 1) 0 inside ∙ omega arith)
        | inr other ↦
            rw (its_bucket, ne_eqb b a (λ s. other (sym s)))
            (get_or-set_other lasts b a (length entries + 1) 0 other ∙ held.last a l
            ∙ sym (last_alike now held.bucket a (length entries) same_buckets))
      ])

  -- an entry of no bucket is the last one of none
  pub held_apart : b ≡ length lasts → AreHeld octets more lasts new
  unfolding last_of
  held_apart none =
      held_more lasts refl (λ a l.
      let other : b ≢ a = λ s. absurd (omega (arith, s, none, l)) in
      rw (its_bucket, ne_eqb b a other)
      (held.last a l ∙ sym (last_alike now held.bucket a (length entries) same_buckets)))

-- a pair whose octets lie behind those of the others
module _ (xs first second : List ℕ) (entries : List Entry) (lasts : List ℕ)
    (rest : Named (BTreeMap (Vec ℕ Global) ℕ)) (held : AreHeld xs entries lasts rest)
    (e : Entry) (start : e.start ≡ length xs) (cut : e.cut ≡ length xs + length first)
    (end : e.end ≡ length xs + length first + length second) where
  abbrev octets : List ℕ
  octets = (xs ++ first) ++ second

  abbrev pair : Pair
  pair = record { first = first; second = second }

  -- the octets grow by those of both names
  length_added : length octets ≡ length xs + length first + length second
  length_added = length-append (xs ++ first) second ∙ ap (λ n. n + length second) (length-append xs first)

  -- the octets of the new pair lie in the longer text
  pub span_added : IsSpan octets e
  span_added = record {
    first = omega (arith, start, cut);
    second = omega (arith, cut, end);
    within = omega (arith, end, length_added);
  }

  -- the first name of the new pair is found where its entry says
  its_first : take (length first) (drop (length xs) octets) ≡ first
  its_first =
      let whole : octets ≡ xs ++ (first ++ second) = append_assoc xs first second in
      rw (front_rest octets xs (first ++ second) whole) (take-append_seam first second)

  -- the second name is found behind the first
  its_second : take (length second) (drop (length xs + length first) octets) ≡ second
  its_second =
      rw (← length-append xs first)
      (rw (front_rest octets (xs ++ first) second refl) (take_all (length second) second (omega arith)))

  -- the new entry is read as the new pair
  pub pair_added : pair_in octets e ≡ pair
  pair_added =
      let a : e.cut - e.start ≡ length first = omega (arith, start, cut) in
      let z : e.end - e.cut ≡ length second = omega (arith, cut, end) in
      rw (a, z, start, cut, its_first, its_second) refl

  -- the pairs are the old ones and the new one behind them
  pub pairs_added : map (pair_in octets) (entries ++ e ∷ []) ≡ map (pair_in xs) entries ++ pair ∷ []
  pairs_added =
      let whole : octets ≡ xs ++ (first ++ second) = append_assoc xs first second in
      map-append (pair_in octets) entries (e ∷ [])
      ∙ rw (pair_added, whole, pairs_still xs (first ++ second) entries lasts rest held) refl

  -- the old entries, beside the octets of the new pair
  still : AreHeld octets entries lasts rest
  still = held_still (xs ++ first) second entries lasts rest (held_still xs first entries lasts rest held)

  -- a pair that is put behind the others, as the last of its bucket, leaves the map in order
  pub held_added : (hash : ℕ) → hash ≡ hash_of pair → e.mark ≡ mark_of hash → (b : ℕ)
      → b ≡ bucket_of (length lasts) hash → b < length lasts → e.before ≡ slice_index lasts b
      → (e.before ≡ 0 → e.depth ≡ 0) → (0 < e.before → e.depth ≡ (entry_at entries (e.before - 1)).depth + 1)
      → e.depth < LONGEST_CHAIN → length entries + 1 < 2 ^ 32
      → AreHeld octets (entries ++ e ∷ []) (slice_set lasts b (length entries + 1)) rest
  held_added hash is mark b own inside before none some short few =
      held_chained octets entries lasts rest still e span_added (rw pair_added (rw is at mark)) b rest
      (λ _. rw pair_added (rw is at own)) (λ _. before ∙ still.last b inside)
      (λ _. chain_counted octets entries lasts rest still b inside e.before before e.depth none some) short few
      (λ p absent. absent) (λ p n f. inl f) inside

  -- so does a pair that is found in order
  pub held_beside : (hash : ℕ) → hash ≡ hash_of pair → e.mark ≡ mark_of hash → e.depth < LONGEST_CHAIN
      → length entries + 1 < 2 ^ 32 → (new : Named (BTreeMap (Vec ℕ Global) ℕ))
      → number_in new pair ≡ Some (length entries)
      → ((p : Pair) → p ≢ pair → number_in new p ≡ number_in rest p)
      → AreHeld octets (entries ++ e ∷ []) lasts new
  held_beside hash is mark short few new found others =
      held_apart octets entries lasts rest still e span_added (rw pair_added (rw is at mark)) (length lasts) new
      (λ none. let f : number_in new pair ≡ None = subst (λ q. number_in new q ≡ None) pair_added none in cc)
      (λ l. absurd (omega (arith, l))) (λ l. absurd (omega (arith, l))) short few
      (λ p none. elim (pair_cases p pair) [
        | inl same ↦ let f : number_in new pair ≡ None = ap (number_in new) (sym same) ∙ none in cc
        | inr other ↦ sym (others p other) ∙ none
      ])
      (λ p n f. elim (pair_cases p pair) [
        | inl same ↦
            let twice : Some n ≡ Some (length entries) = sym f ∙ ap (number_in new) same ∙ found in
            let one : n ≡ length entries = cc in
            inr (one, pair_added ∙ sym same)
        | inr other ↦ inl (sym (others p other) ∙ f)
      ]) refl

  -- whether the pair was added, or memory ran out before
  module _ {X Y : Type 0} (more : List Entry) (new : Named (BTreeMap (Vec ℕ Global) ℕ)) where
    -- either way the pairs are held
    pub held_either : (hash : ℕ) → hash ≡ hash_of pair → e.mark ≡ mark_of hash → e.depth < LONGEST_CHAIN
        → length entries + 1 < 2 ^ 32 → (r : Result X Y)
        → OnOk r (more ≡ entries ++ e ∷ []) → OnOk r (number_in new pair ≡ Some (length entries))
        → OnOk r ((p : Pair) → p ≢ pair → number_in new p ≡ number_in rest p)
        → OnErr r (more ≡ entries) → OnErr r ((p : Pair) → number_in new p ≡ number_in rest p)
        → AreHeld octets more lasts new
    held_either hash is mark short few (Ok x) added own others same kept =
        rw added (held_beside hash is mark short few new own others)
    held_either hash is mark short few (Err x) added own others same kept =
        rw same (held_alike octets entries lasts rest new kept still)

    -- if it was added, it is the last one
    pub pairs_either : (r : Result X Y) → OnOk r (more ≡ entries ++ e ∷ [])
        → OnOk r (map (pair_in octets) more ≡ map (pair_in xs) entries ++ pair ∷ [])
    pairs_either (Ok x) added = rw added pairs_added
    pairs_either (Err x) added = record {}

    -- if not, the pairs are those of before
    pub kept_either : (r : Result X Y) → OnErr r (more ≡ entries)
        → IfErr r (λ _. map (pair_in octets) more ≡ map (pair_in xs) entries)
    kept_either (Ok x) same = record {}
    kept_either (Err x) same =
        let whole : octets ≡ xs ++ (first ++ second) = append_assoc xs first second in
        rw (same, whole) (pairs_still xs (first ++ second) entries lasts rest held)
