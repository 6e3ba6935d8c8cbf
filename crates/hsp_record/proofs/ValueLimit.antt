-- No index twice.
use Rattle.std.proofs.Common.{◌≡◌, ℕ, zero, suc, ◌^◌, ◌<◌, Bool, true, false, List, [], ◌∷◌, ◌++◌, length, Ok, Err}
use Rattle.std.proofs.Common.{refl, sym, ap, subst, ◌∙◌, append_assoc, arith, inl, inr}
use Rattle.std.specs.Cmp.{unsigned_Decides}
use Rattle.std.specs.Int.{w32, to_be_bytes}
use Rattle.std.proofs.lemmas.List.{append-nil}
use Rattle.std.proofs.lemmas.Map.Made.{is_member-Decides}
use Rattle.hsp_record.specs.declared.fault.Stop.{Stop}
use Rattle.hsp_record.specs.declared.fault.Stop.TheVariants.{Twice}
use Rattle.hsp_text.specs.Answers.{◌>>=◌}
use Rattle.hsp_record.specs.Fields.{IsOctets, joined, all_fields}
use Rattle.hsp_record.specs.Values.{HandleValue, value_fields, values_fields, indices, values_format}
use Rattle.hsp_record.specs.Reading.{Read, number_at, is_one_of, index_at, values_at, value_list_at}
use Rattle.hsp_record.proofs.Cuts.{joined_then}
use Rattle.hsp_record.proofs.Codec.{Codec, IsOctets-rest, never, never_stops, first_stops, second_stops}
use Rattle.hsp_record.proofs.Codec.{bind_err, gave, ok_is, as_codec}
use Rattle.hsp_record.proofs.Readers.{bind_end, u32_codec, behind_codec, number_front, guarded_stops}
use Rattle.hsp_record.proofs.ValueCodec.{AtTwice, AreValues, none_yet, Unmet, body_codec, new_at, new_codec, values_to}
use Rattle.hsp_record.proofs.ValueCodec.{values_more, values_codec}
use Rattle.hsp_record.proofs.Limits.{held, Passes, Limited}
use Rattle.hsp_text.proofs.Steps.{first_step}

-- at first each index is new
none_met : (is : List ℕ) → Unmet [] is
none_met [] = tt
none_met (i ∷ is) = (refl, none_met is)

-- values of distinct indices make a list
list_to : (k : Bool) (vs : List HandleValue) → (length vs < 2 ^ 32) × AreValues [] k vs → held values_format k vs
list_to true vs h = ((h.0, h.1.0), h.1.2)
list_to false vs h = h

-- a list has values of distinct indices
list_from : (k : Bool) (vs : List HandleValue) → held values_format k vs → (length vs < 2 ^ 32) × AreValues [] k vs
list_from true vs h = (h.0.0, (h.0.1, none_met (indices vs), h.1))
list_from false vs h = h

-- a list of values is its count, and as many values of distinct indices
list_codec : Codec AtTwice (List HandleValue) value_list_at (held values_format) values_fields
unfolding value_list_at
list_codec =
    as_codec value_list_at (held values_format) values_fields (λ vs. vs)
    (behind_codec {F = AreValues []} length (values_at []) u32_codec (λ n _. values_codec [] n))
    (λ bytes. bind_end (value_list_at bytes))
    list_to
    (λ vs h. refl)
    (λ k vs h. (vs, refl, list_from k vs h))

-- where some values are read, and reading the next index stops, no more values are read
stops_behind : (met : List ℕ) (m n : ℕ) (bytes : List ℕ) (vs : List HandleValue) (between : List ℕ) (e : Stop) → m < n
    → values_at met m bytes ≡ Ok (vs, between) → index_at (met ++ indices vs) between ≡ Err e
    → values_at met n bytes ≡ Err e
unfolding values_at
stops_behind met m zero bytes vs between e lt read at = absurd (omega arith)
stops_behind met zero (suc n) bytes vs between e lt read at =
    let none : List HandleValue × List ℕ = ([], bytes) in
    let here = subst (λ q. index_at (met ++ indices q.0) q.1 ≡ Err e) (sym (ok_is none (vs, between) read)) at in
    let same : index_at met bytes ≡ Err e = rw append-nil at here in
    rw same refl
stops_behind met (suc m) (suc n) bytes vs between e lt read at =
    let then : ℕ → HandleValue × List ℕ → Read (List HandleValue) =
    λ k v. values_at (met ++ v.0.index ∷ []) k v.1 >>= λ others. gave (v.0 ∷ others.0) others.1 in
    let s = first_step (new_at met bytes) (then m) (vs, between) (sym (values_more met m bytes) ∙ read) in
    let t =
    first_step (values_at (met ++ s.0.0.index ∷ []) m s.0.1) (λ others. gave (s.0.0 ∷ others.0) others.1)
    (vs, between) s.2 in
    let made : List HandleValue × List ℕ = (s.0.0 ∷ t.0.0, t.0.1) in
    let here =
    subst (λ q. index_at (met ++ indices q.0) q.1 ≡ Err e) {y = made} (sym (ok_is made (vs, between) t.2)) at in
    let later =
    stops_behind (met ++ s.0.0.index ∷ []) m n s.0.1 t.0.0 t.0.1 e (omega arith) t.1 (rw append_assoc here) in
    values_more met n bytes ∙ ap (λ r. r >>= then n) s.1
    ∙ ap (λ r. r >>= λ others. gave (s.0.0 ∷ others.0) others.1) later

-- a list with an index twice stops the reader
list_stops : (octets : List ℕ) (stop : Stop) → Passes values_format octets stop → value_list_at octets ≡ Err stop
unfolding value_list_at index_at
list_stops octets (Twice index) t =
    let between = to_be_bytes w32 index ++ t.rest in
    let read =
    (values_codec [] (length t.earlier)).again t.earlier between
    (refl, (t.fit, none_met (indices t.earlier), t.distinct)) in
    let met = (is_member-Decides unsigned_Decides (indices t.earlier) index).1 t.again in
    rw (t.begins, number_front t.count (joined (all_fields value_fields t.earlier) ++ between) t.counted)
    (stops_behind [] (length t.earlier) t.count (joined (all_fields value_fields t.earlier) ++ between) t.earlier
    between (Twice index) t.fewer read (rw (number_front index t.rest t.four, met) refl))
list_stops octets stop p = absurd p

-- Values of indices that were not met stand before an index that was met.
record IsDoubled (met : List ℕ) (n : ℕ) (bytes : List ℕ) (index : ℕ) : Type 0 where
  pub earlier : List HandleValue
  pub are : AreValues met true earlier
  pub fewer : length earlier < n
  pub again : is_one_of (met ++ indices earlier) index ≡ true
  pub four : index < 2 ^ 32
  pub rest : List ℕ
  pub begins : bytes ≡ joined (all_fields value_fields earlier) ++ (to_be_bytes w32 index ++ rest)

-- the reader stops for an index only where two values have it
doubled : (met : List ℕ) (n : ℕ) (bytes : List ℕ) (index : ℕ) → IsOctets bytes
    → values_at met n bytes ≡ Err (Twice index) → IsDoubled met n bytes index
unfolding values_at index_at
doubled met zero bytes index fits e = absurd cc
doubled met (suc n) bytes index fits e =
    let then : HandleValue × List ℕ → Read (List HandleValue) =
    λ v. values_at (met ++ v.0.index ∷ []) n v.1 >>= λ others. gave (v.0 ∷ others.0) others.1 in
    elim (bind_err (new_at met bytes) then (Twice index) (sym (values_more met n bytes) ∙ e)) [
      | inl l ↦
          let g =
          guarded_stops (is_one_of met) (λ i. Twice i) (λ i lt. body_codec i lt) bytes (Twice index) fits
          (λ left h. cc) l in
          let same : g.0 ≡ index = cc in
          subst (IsDoubled met (suc n) bytes) same
          (record {
            earlier = [];
            are = none_yet met true;
            fewer = omega arith;
            again = rw append-nil g.2;
            four = g.1;
            rest = g.4;
            begins = g.5;
          })
      | inr s ↦
          let v = (new_codec met).takes bytes s.0.0 s.0.1 fits s.1 in
          let d =
          doubled (met ++ s.0.0.index ∷ []) n s.0.1 index
          (IsOctets-rest bytes (joined (value_fields s.0.0)) s.0.1 fits v.1)
          (first_stops (values_at (met ++ s.0.0.index ∷ []) n s.0.1) (λ others. gave (s.0.0 ∷ others.0) others.1)
          (Twice index) s.2 (λ others h. cc)) in
          record {
            earlier = s.0.0 ∷ d.earlier;
            are = values_to met true s.0.0 d.earlier v.0 d.are;
            fewer = omega (arith, d.fewer);
            again = rw (← append_assoc met (s.0.0.index ∷ []) (indices d.earlier)) d.again;
            four = d.four;
            rest = d.rest;
            begins =
                joined_then (value_fields s.0.0) (all_fields value_fields d.earlier) bytes s.0.1
                (to_be_bytes w32 index ++ d.rest) v.1 d.begins;
          }
    ]

-- the reader stops for an index only where the list has it twice
list_passed : (octets : List ℕ) (stop : Stop) → IsOctets octets → AtTwice stop → value_list_at octets ≡ Err stop
    → Passes values_format octets stop
unfolding value_list_at
list_passed octets (Twice index) fits at e =
    let c =
    second_stops (number_at w32 octets) _ (Twice index) e
    (never_stops u32_codec octets (Twice index) fits (λ left h. cc)) in
    let n = (u32_codec {L = never}).takes octets c.0.0 c.0.1 fits c.1 in
    let d =
    doubled [] c.0.0 c.0.1 index (IsOctets-rest octets (joined (to_be_bytes w32 c.0.0 ∷ [])) c.0.1 fits n.1) c.2 in
    record {
      count = c.0.0;
      counted = n.0;
      earlier = d.earlier;
      fit = d.are.0;
      distinct = d.are.2;
      fewer = d.fewer;
      again = (is_member-Decides unsigned_Decides (indices d.earlier) index).0 d.again;
      four = d.four;
      rest = d.rest;
      begins =
          n.1 ∙ ap (λ l. l ++ c.0.1) (append-nil (to_be_bytes w32 c.0.0))
          ∙ ap (λ l. to_be_bytes w32 c.0.0 ++ l) d.begins;
    }
list_passed octets stop fits at e = absurd cc

-- the reader of lists of values refuses an index that stands twice
pub list_limited : Limited AtTwice (List HandleValue) value_list_at values_format
list_limited = record { codec = list_codec; stops = list_stops; passed = list_passed }
