-- Reading values of distinct indices one after the other, as a loop does.
use Rattle.std.proofs.Common.{◌≡◌, ℕ, ◌-◌, ◌≤◌, Bool, true, false, ◌||◌, cond, List, [], ◌∷◌, ◌++◌, length, take, drop}
use Rattle.std.proofs.Common.{Result, Ok, Err, refl, sym, ap, ◌∙◌, arith, length-append}
use Rattle.std.specs.Prelude.{nat_eq}
use Rattle.std.specs.Ordering.{nat_cmp, is_eq}
use Rattle.std.specs.Int.{w32, to_be_bytes}
use Rattle.std.specs.BTreeSet as set
use Rattle.std.specs.BTreeSet.{BTreeSet}
use Rattle.std.proofs.lemmas.Bool.Decides.{nat_tests}
use Rattle.std.proofs.lemmas.List.{append-nil, map-append, take_at, drop_at}
use Rattle.std.proofs.lemmas.List.Folds.{list_any-append}
use Rattle.hsp_record.specs.declared.fault.Stop.{Stop}
use Rattle.hsp_record.specs.Fields.{IsOctets, joined, all_fields}
use Rattle.hsp_record.specs.Values.{ValueReference, HandleValue, reference_fields, indices}
use Rattle.hsp_record.specs.Reading.{Read, number_at, times_at, list_at, reference_at, read_references, references_in}
use Rattle.hsp_record.specs.Reading.{AreReferences, body_at, is_one_of, values_at}
use Rattle.hsp_text.specs.Answers.{◌>>=◌}
use Rattle.hsp_record.proofs.Codec.{gave, never, IsOctets-rest}
use Rattle.hsp_record.proofs.Readers.{u32_codec, times_codec}
use Rattle.hsp_record.proofs.ValueCodec.{reference_codec, body_index, new_at, values_more}
use Rattle.hsp_record.proofs.Loop.{with_front, Steps}

-- ---- the octets of references

-- a count, that many references, and the octets that they stand in
pub record SplitsReferences (bytes : List ℕ) (count : ℕ) (front back : List ℕ) : Type 0 where
  pub are : AreReferences count front
  pub read : list_at reference_at bytes ≡ Ok (references_in count front, back)

-- the octets of references stand between what was left before and after them
pub references_split : (bytes : List ℕ) (count : ℕ) (octets : List ℕ) (references : List ValueReference) (rest : List ℕ)
    → IsOctets bytes → number_at w32 bytes ≡ Ok (count, octets)
    → times_at reference_at count octets ≡ Ok (references, rest)
    → (length rest ≤ length octets)
    × ((front back : List ℕ) → front ≡ take (length octets - length rest) octets
    → back ≡ drop (length octets - length rest) octets → SplitsReferences bytes count front back)
unfolding list_at
references_split bytes count octets references rest fits e h =
    let many = times_codec {L = never} reference_codec count in
    let counted = (u32_codec {L = never}).takes bytes count octets fits e in
    let t =
    many.takes octets references rest
    (IsOctets-rest bytes (joined (to_be_bytes w32 count ∷ [])) octets fits counted.1) h in
    let spelled = joined (all_fields reference_fields references) in
    let n = length octets - length rest in
    let len : length spelled ≡ n = omega (arith, ap length t.1, length-append spelled rest) in
    let front_is : take n octets ≡ spelled = ap (take n) t.1 ∙ take_at spelled rest n len in
    let back_is : drop n octets ≡ rest = ap (drop n) t.1 ∙ drop_at spelled rest n len in (
      omega (arith, ap length t.1, length-append spelled rest),
      λ front back f b.
          let same : references_in count front ≡ references =
          ap read_references
          (ap (times_at reference_at count) (f ∙ front_is ∙ sym (append-nil spelled))
          ∙ many.again references [] t.0) in
          record {
            are = (
              ap length same ∙ t.0.0,
              ap (λ (rs : List ValueReference). joined (all_fields reference_fields rs)) same ∙ sym (f ∙ front_is),
            );
            read = rw (same, b ∙ back_is, e, h) refl;
          },
    )

-- ---- the set of indices

-- The set has the indices of the values.
abbrev pub HasIndices : BTreeSet ℕ → List HandleValue → Type 0
HasIndices met values = (q : ℕ) → set.contains nat_cmp met q ≡ is_one_of (indices values) q

-- the set's test of an index is that of the definition
same_test : (k q : ℕ) (b : Bool) → cond (is_eq (nat_cmp k q)) true b ≡ (b || (nat_eq q k || false))
same_test k q b = grind (arith, nat_tests)

-- the set has the index of each value, also of the next one
pub HasIndices-more : (met more : BTreeSet ℕ) (values : List HandleValue) (index : ℕ) (body : List ℕ) (v : HandleValue)
    (after : List ℕ) → body_at index body ≡ Ok (v, after) → HasIndices met values
    → set.Updates nat_cmp met more index true → HasIndices more (values ++ v ∷ [])
HasIndices-more met more values index body v after b has updates q =
    updates.0 q
    ∙ ap (cond (is_eq (nat_cmp index q)) true) (has q)
    ∙ same_test index q (is_one_of (indices values) q)
    ∙ sym (list_any-append (nat_eq q) (indices values) (index ∷ []))
    ∙ ap (λ (x : ℕ). is_one_of (indices values ++ x ∷ []) q) (sym (body_index index body v after b))
    ∙ ap (λ (is : List ℕ). is_one_of is q) (sym (map-append (λ w. w.index) values (v ∷ [])))

-- ---- the loop

-- Those values were read, and so many are left.
abbrev pub IsReading : List HandleValue → ℕ → List ℕ → Read (List HandleValue) → Type 0
IsReading values left rest total = with_front values (values_at (indices values) left rest) ≡ total

-- equal second steps give the same
bind_same : {A B : Type 0} (r : Result A Stop) {f g : A → Result B Stop} → ((x : A) → f x ≡ g x) → (r >>= f) ≡ (r >>= g)
bind_same (Ok x) same = same x
bind_same (Err e) same = refl

-- reading values in turn is reading a new one, and then the others
pub values_steps : Steps (λ values. new_at (indices values)) (λ values. values_at (indices values))
unfolding values_at
values_steps = record {
  none = λ values rest. refl;
  more = λ values n rest.
      values_more (indices values) n rest
      ∙ bind_same (new_at (indices values) rest)
      (λ v.
      ap (λ is. values_at is n v.1 >>= λ others. gave (v.0 ∷ others.0) others.1)
      (sym (map-append (λ w. w.index) values (v.0 ∷ []))));
}
