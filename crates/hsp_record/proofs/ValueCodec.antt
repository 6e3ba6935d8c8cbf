-- Readers of handle values and of lists of them, each with the fields that it reads.
use Rattle.std.proofs.Common.{◌≡◌, ℕ, zero, suc, ◌^◌, ◌<◌, Bool, true, false, List, [], ◌∷◌, ◌++◌, length, Ok, Err}
use Rattle.std.proofs.Common.{refl, sym, ap, ◌∙◌}
use Rattle.std.specs.Prelude.{nat_eq}
use Rattle.std.specs.List.{AllByRecursion, IsDistinct}
use Rattle.std.specs.Int.{w32, to_be_bytes}
use Rattle.std.proofs.lemmas.Bool.{or_parts, or_from, eqb-false, ne_eqb}
use Rattle.std.proofs.lemmas.List.Folds.{list_any-append}
use Rattle.hsp_record.specs.declared.fault.Stop.{Stop}
use Rattle.hsp_record.specs.declared.fault.Stop.TheVariants.{Twice}
use Rattle.hsp_text.specs.Answers.{◌>>=◌}
use Rattle.hsp_record.specs.Fields.{all_fields}
use Rattle.hsp_record.specs.Values.{ValueReference, HandleValue, reference_fields, body_fields, value_fields}
use Rattle.hsp_record.specs.Values.{IsReference, IsValue, indices, HaveOwnIndices}
use Rattle.hsp_record.specs.Reading.{Read, Reader, reference_at, body_of, body_at, is_one_of, index_at, values_at}
use Rattle.hsp_record.proofs.Codec.{Codec, gave, ok_is, both_codec, seen_codec, guard_codec, Kept}
use Rattle.hsp_record.proofs.Readers.{octet_codec, u32_codec, u64_codec, run_codec, list_codec, none_codec, more_codec}
use Rattle.hsp_record.proofs.Readers.{behind_codec}
use Rattle.hsp_text.proofs.Steps.{first_step}

-- a reference is a handle and an index
pub reference_codec : {L : Stop → Type 0} → Codec L ValueReference reference_at (λ _. IsReference) reference_fields
unfolding reference_at
reference_codec =
    seen_codec (λ p. record { handle = p.0; index = p.1 }) (both_codec run_codec u32_codec)
    (λ _ p h. record { handle = h.0; index = h.1 })
    (λ _ r h. ((r.handle, r.index), refl, (h.handle, h.index)))

-- the fields behind an index that is known
pub body_codec : {L : Stop → Type 0} (index : ℕ) → index < 2 ^ 32
    → Codec L HandleValue (body_at index) (λ _ v. (v.index ≡ index) × IsValue v) body_fields
unfolding body_at
body_codec index lt =
    seen_codec (body_of index)
    (both_codec run_codec
    (both_codec run_codec
    (both_codec octet_codec
    (both_codec octet_codec (both_codec u32_codec (both_codec u64_codec (list_codec reference_codec)))))))
    (λ _ p h. (
      refl,
      record {
        index = lt;
        type_octets = h.0;
        octets = h.1.0;
        permission = h.1.1.0;
        ttl_kind = h.1.1.1.0;
        ttl = h.1.1.1.1.0;
        timestamp = h.1.1.1.1.1.0;
        references = h.1.1.1.1.1.1;
      },
    ))
    (λ _ v h. (
      (v.type_octets, (v.octets, (v.permission, (v.ttl_kind, (v.ttl, (v.timestamp, v.references)))))),
      ap (λ (i : ℕ). record v { index = i }) (sym h.0),
      (h.1.type_octets, (h.1.octets, (h.1.permission, (h.1.ttl_kind, (h.1.ttl, (h.1.timestamp, h.1.references)))))),
    ))

-- the rest of a value keeps the index that was read before it
pub body_index : (index : ℕ) (bytes : List ℕ) (v : HandleValue) (rest : List ℕ) → body_at index bytes ≡ Ok (v, rest)
    → v.index ≡ index
unfolding body_at
body_index index bytes v rest e =
    let s = first_step _ (λ x. gave (body_of index x.0) x.1) (v, rest) e in
    let made : HandleValue × List ℕ = (body_of index s.0.0, s.0.1) in
    sym (ap (λ k. k.0.index) (ok_is made (v, rest) s.2))

-- ---- indices that were not met

-- none of the indices was met
abbrev pub Unmet : List ℕ → List ℕ → Type 0
Unmet met is = AllByRecursion (λ i. is_one_of met i ≡ false) is

-- two numbers differ in either order
nat_eq-flip : (a b : ℕ) → nat_eq a b ≡ false → nat_eq b a ≡ false
nat_eq-flip a b h = ne_eqb b a (λ e. eqb-false a b h (sym e))

-- indices stay new where one more is met that is none of them
unmet_more : (met : List ℕ) (x : ℕ) (is : List ℕ) → Unmet met is → AllByRecursion (λ y. nat_eq x y ≡ false) is
    → Unmet (met ++ x ∷ []) is
unmet_more met x [] h k = tt
unmet_more met x (i ∷ is) h k = (
  list_any-append (nat_eq i) met (x ∷ []) ∙ or_from _ _ h.0 (or_from _ _ (nat_eq-flip x i k.0) refl),
  unmet_more met x is h.1 k.1,
)

-- indices that are new to a longer list are new to the shorter one, and to the last
unmet_less : (met : List ℕ) (x : ℕ) (is : List ℕ) → Unmet (met ++ x ∷ []) is
    → Unmet met is × AllByRecursion (λ y. nat_eq x y ≡ false) is
unmet_less met x [] h = (tt, tt)
unmet_less met x (i ∷ is) h =
    let one = or_parts _ _ (sym (list_any-append (nat_eq i) met (x ∷ [])) ∙ h.0) in
    let more = unmet_less met x is h.1 in
    ((one.0, more.0), (nat_eq-flip i x (or_parts _ _ one.1).0, more.1))

-- ---- values of own indices

-- values, which within the limit have indices of their own, none of which was met
abbrev pub AreValues : List ℕ → Bool → List HandleValue → Type 0
AreValues met true vs = AllByRecursion IsValue vs × Unmet met (indices vs) × HaveOwnIndices vs
AreValues met false vs = AllByRecursion IsValue vs

-- no values have no index twice
pub none_yet : (met : List ℕ) (k : Bool) → AreValues met k []
unfolding IsDistinct
none_yet met true = (tt, tt, tt)
none_yet met false = tt

abbrev pub IsNew : List ℕ → Bool → HandleValue → Type 0
IsNew met k v = ((v.index < 2 ^ 32) × Kept k (is_one_of met v.index)) × IsValue v

-- a new value before values that are new makes values that are new
pub values_to : (met : List ℕ) (k : Bool) (v : HandleValue) (vs : List HandleValue) → IsNew met k v
    → AreValues (met ++ v.index ∷ []) k vs → AreValues met k (v ∷ vs)
unfolding IsDistinct
values_to met true v vs h hs =
    let l = unmet_less met v.index (indices vs) hs.1 in ((h.1, hs.0), (h.0.1, l.0), (l.1, hs.2))
values_to met false v vs h hs = (h.1, hs)

-- of values that are new, the first is, and so are the others
values_from : (met : List ℕ) (k : Bool) (v : HandleValue) (vs : List HandleValue) → AreValues met k (v ∷ vs)
    → IsNew met k v × AreValues (met ++ v.index ∷ []) k vs
unfolding IsDistinct
values_from met true v vs h =
    (((h.0.0.index, h.1.0), h.0.0), (h.0.1, unmet_more met v.index (indices vs) h.1.1 h.2.0, h.2.1))
values_from met false v vs h = (((h.0.index, tt), h.0), h.1)

-- reading stops at an index that was met
abbrev pub AtTwice : Stop → Type 0
AtTwice e = (index : ℕ) × (e ≡ Twice index)

-- an index that was not met before is read as a number
index_codec : (met : List ℕ)
    → Codec AtTwice ℕ (index_at met) (λ k n. (n < 2 ^ 32) × Kept k (is_one_of met n)) (λ n. to_be_bytes w32 n ∷ [])
unfolding index_at
index_codec met = guard_codec (is_one_of met) (λ n. Twice n) (λ n. (n, refl)) u32_codec

-- a value of an index that was not met
abbrev pub new_at : List ℕ → Reader HandleValue
new_at met bytes = index_at met bytes >>= λ index. body_at index.0 index.1

-- a value whose index is new is read as any value
pub new_codec : (met : List ℕ) → Codec AtTwice HandleValue (new_at met) (IsNew met) value_fields
new_codec met = behind_codec {F = λ _. IsValue} (λ v. v.index) body_at (index_codec met) (λ i h. body_codec i h.0)

-- the index that was read is the value's
indexed : {X : Type 0} (i : ℕ) (r : Read X) (f : X → HandleValue)
    (then : ℕ → HandleValue × List ℕ → Read (List HandleValue)) → ((x : X) → (f x).index ≡ i)
    → ((r >>= λ x. gave (f x.0) x.1) >>= then i) ≡ ((r >>= λ x. gave (f x.0) x.1) >>= λ v. then v.0.index v)
indexed i (Ok x) f then is = ap (λ j. then j (f x.0, x.1)) (sym (is x.0))
indexed i (Err e) f then is = refl

abbrev then_others : List ℕ → ℕ → ℕ → HandleValue × List ℕ → Read (List HandleValue)
then_others met n index first = values_at (met ++ index ∷ []) n first.1 >>= λ others. gave (first.0 ∷ others.0) others.1

-- an index and the rest of its value are the value
more_at : (met : List ℕ) (n : ℕ) (read : Read ℕ)
    → (read >>= λ index. body_at index.0 index.1 >>= then_others met n index.0)
    ≡ ((read >>= λ index. body_at index.0 index.1) >>= λ v. then_others met n v.0.index v)
unfolding body_at
more_at met n (Ok index) = indexed index.0 _ (body_of index.0) (then_others met n) (λ x. refl)
more_at met n (Err e) = refl

-- so many values are the first and the others
pub values_more : (met : List ℕ) (n : ℕ) (bytes : List ℕ)
    → values_at met (suc n) bytes
    ≡ (new_at met bytes >>= λ v. values_at (met ++ v.0.index ∷ []) n v.1 >>= λ others. gave (v.0 ∷ others.0) others.1)
unfolding values_at
values_more met n bytes = more_at met n (index_at met bytes)

-- values of distinct indices are read one after the other
pub values_codec : (met : List ℕ) (n : ℕ)
    → Codec AtTwice (List HandleValue) (values_at met n) (λ k vs. (length vs ≡ n) × AreValues met k vs)
    (all_fields value_fields)
unfolding values_at
values_codec met zero = none_codec (AreValues met) value_fields (none_yet met)
values_codec met (suc n) =
    more_codec n (λ v. values_at (met ++ v.index ∷ []) n) (AreValues met) (new_codec met)
    (λ v _. values_codec (met ++ v.index ∷ []) n) (values_to met) (values_from met) (values_at met (suc n))
    (values_more met n)
