-- Numbers, runs of octets and lists, each with what is read of it.
use Rattle.std.proofs.Common.{◌≡◌, ℕ, zero, suc, ◌-◌, ◌/◌, ◌%◌, ◌^◌, ◌<◌, ◌≤◌, Bool, true, false, cond, ltb, List, []}
use Rattle.std.proofs.Common.{◌∷◌, ◌++◌, length, take, drop, replicate, Result, Ok, Err, refl, sym, ap, subst, ◌∙◌}
use Rattle.std.proofs.Common.{arith, inl, inr}
use Rattle.std.specs.List.{AllByRecursion}
use Rattle.std.specs.Int.{Width, w8, w16, w32, w64, byte_at, byte_len, bytes_high_first, from_be_bytes, to_be_bytes}
use Rattle.std.proofs.lemmas.Bool.{ltb-false, ltb-true, le-ltb, lt-ltb}
use Rattle.std.proofs.lemmas.List.{append-nil, take_at, drop_at, take-append-drop, length-append, length-take}
use Rattle.std.proofs.lemmas.List.{length-replicate}
use Rattle.std.proofs.lemmas.Nat.{be_bytes_2, be_bytes_4, be_bytes_8, from_be_bytes-to_be_bytes_2}
use Rattle.std.proofs.lemmas.Nat.{from_be_bytes-to_be_bytes_4, from_be_bytes-to_be_bytes_8}
use Rattle.hsp_record.specs.declared.fault.Stop.{Stop}
use Rattle.hsp_record.specs.declared.fault.Stop.TheVariants.{Short}
use Rattle.hsp_record.specs.Fields.{IsOctets, joined, run_fields, IsRun, all_fields, list_fields, IsCounted}
use Rattle.hsp_text.specs.Answers.{◌>>=◌}
use Rattle.hsp_record.specs.Reading.{Read, Reader, number_at, octets_at, run_at, times_at, list_at}
use Rattle.hsp_record.proofs.Cuts.{Cuts}
use Rattle.hsp_record.proofs.Codec.{IsOctets-append, IsOctets-field, IsOctets-take, IsOctets-zeros, IsOctets-rest}
use Rattle.hsp_record.proofs.Codec.{bind_err, second_stops, guard_ok, guard_err, done, gave, ok_is, not_both, Codec}
use Rattle.hsp_record.proofs.Codec.{never, never_stops, then_codec, as_codec, guard_codec}

-- ---- a run whose length is known

-- octets that are taken stand at the front
taken : (n : ℕ) (bytes x rest : List ℕ) → octets_at n bytes ≡ Ok (x, rest)
    → (length x ≡ n) × (bytes ≡ x ++ rest) × (x ≡ take n bytes)
taken n bytes x rest e =
    let g = guard_ok (ltb (length bytes) n) (Short (length bytes)) (take n bytes, drop n bytes) (x, rest) e in
    let long : n ≤ length bytes = ltb-false _ _ g.0 in
    let x-is : take n bytes ≡ x = ap (λ (p : List ℕ × List ℕ). p.0) g.1 in
    let rest-is : drop n bytes ≡ rest = ap (λ (p : List ℕ × List ℕ). p.1) g.1 in (
      omega (arith, ap length x-is, length-take n bytes),
      rw (← x-is, ← rest-is) (sym (take-append-drop n bytes)),
      sym x-is,
    )

-- a field is taken from what begins with it
taken_again : (n : ℕ) (x rest : List ℕ) → length x ≡ n → octets_at n (x ++ rest) ≡ Ok (x, rest)
taken_again n x rest len =
    let long : ltb (length (x ++ rest)) n ≡ false = le-ltb _ _ (omega (arith, length-append x rest)) in
    rw (long, take_at x rest n len, drop_at x rest n len) refl

-- so many octets are a field of their length
pub octets_codec : {L : Stop → Type 0} (n : ℕ)
    → Codec L (List ℕ) (octets_at n) (λ _ x. (length x ≡ n) × IsOctets x) (λ x. x ∷ [])
octets_codec n = record {
  any = λ x h. h;
  takes = λ bytes x rest fits e.
      let t = taken n bytes x rest e in (
        (t.0, subst IsOctets (sym t.2) (IsOctets-take n bytes fits)),
        t.1 ∙ ap (λ (l : List ℕ). l ++ rest) (sym (append-nil x)),
      );
  again = λ x rest h. ap (λ (l : List ℕ). octets_at n (l ++ rest)) (append-nil x) ∙ taken_again n x rest h.0;
  -- the octets that are there, and zeros
  fails = λ bytes e fits h.
      let s = guard_err (ltb (length bytes) n) (Short (length bytes)) e (take n bytes, drop n bytes) h in
      let short = ltb-true (length bytes) n s.0 in
      let zeros : List ℕ = replicate (n - length bytes) 0 in
      let many : length zeros ≡ n - length bytes = length-replicate {A = ℕ} (n - length bytes) 0 in
      inr (
        length bytes,
        sym s.1,
        bytes ++ zeros,
        (
          omega (arith, length-append bytes zeros),
          IsOctets-append bytes zeros fits (IsOctets-zeros (n - length bytes)),
        ),
        inl (record { more = zeros; parts = refl; some = omega arith; left-is = refl }),
      );
  cut = λ x bytes left h c.
      elim c [
        | inl here ↦
            let short : ltb (length bytes) n ≡ true =
            lt-ltb _ _ (omega (arith, h.0, ap length here.parts, length-append bytes here.more, here.some)) in
            (Short left, inl refl, rw (short, here.left-is) refl)
        | inr later ↦ absurd later.2
      ];
  kept = λ x rest h. inl h;
  some = (replicate n 0, (length-replicate {A = ℕ} n 0, IsOctets-zeros n));
  octets = λ x h. IsOctets-field x h.1;
}

-- ---- a number

-- one octet is read and written as it is
octet_back : (bytes : List ℕ) → length bytes ≡ 1 → IsOctets bytes → to_be_bytes w8 (from_be_bytes w8 bytes) ≡ bytes
octet_back [] len fits = absurd (omega arith)
octet_back (x ∷ []) len fits = let small : x % 256 ≡ x = omega (arith, fits 0) in ap (λ (n : ℕ). n ∷ []) small
octet_back (x ∷ y ∷ bytes) len fits = absurd (omega arith)

-- an octet of a number is below 256
byte_octet : (i n : ℕ) → byte_at i n < 256
byte_octet zero n = omega arith
byte_octet (suc i) n = let octet : n / 256 ^ suc i % 256 < 256 = omega arith in octet

-- a number is written as octets
high_octets : (k n : ℕ) → IsOctets (bytes_high_first k n)
high_octets zero n i = omega arith
high_octets (suc k) n zero = byte_octet k n
high_octets (suc k) n (suc i) = high_octets k n i

-- A number is a run of octets, seen as a number.
number_is : (w : Width) (bytes : List ℕ)
    → number_at w bytes ≡ (octets_at (byte_len w) bytes >>= λ x. gave (from_be_bytes w x.0) x.1)
number_is w bytes =
    elim (ltb (length bytes) (byte_len w))
    as (λ t.
    cond t (Err (Short (length bytes))) (gave (from_be_bytes w (take (byte_len w) bytes)) (drop (byte_len w) bytes))
    ≡ (cond t (Err (Short (length bytes))) (gave (take (byte_len w) bytes) (drop (byte_len w) bytes)) >>= λ x.
    gave (from_be_bytes w x.0) x.1)) [
      | true ↦ refl
      | false ↦ refl
    ]

-- a number of a width is read from its octets, the highest first
number_codec : {L : Stop → Type 0} (w : Width) (limit : ℕ) → ((n : ℕ) → length (to_be_bytes w n) ≡ byte_len w)
    → ((bytes : List ℕ) → IsOctets bytes → from_be_bytes w bytes < limit)
    → ((bytes : List ℕ) → length bytes ≡ byte_len w → IsOctets bytes → to_be_bytes w (from_be_bytes w bytes) ≡ bytes)
    → ((n : ℕ) → n < limit → from_be_bytes w (to_be_bytes w n) ≡ n)
    → Codec L ℕ (number_at w) (λ _ n. n < limit) (λ n. to_be_bytes w n ∷ [])
number_codec w limit len below back again =
    as_codec (number_at w) (λ _ n. n < limit) (λ n. to_be_bytes w n ∷ []) (from_be_bytes w) (octets_codec (byte_len w))
    (number_is w)
    (λ _ x h. below x h.1)
    (λ x h. ap (λ l. l ∷ []) (back x h.0 h.1))
    (λ _ n h. (to_be_bytes w n, again n h, (len n, high_octets (byte_len w) n)))

-- integers of 1, 2, 4 and 8 octets
pub octet_codec : {L : Stop → Type 0} → Codec L ℕ (number_at w8) (λ _ n. n < 2 ^ 8) (λ n. to_be_bytes w8 n ∷ [])
octet_codec =
    number_codec w8 (2 ^ 8) (λ n. refl) (λ bytes fits. omega (arith, fits 0)) octet_back
    (λ n lt. let small : n % 256 ≡ n = omega arith in small)

-- a number of two octets
pub u16_codec : {L : Stop → Type 0} → Codec L ℕ (number_at w16) (λ _ n. n < 2 ^ 16) (λ n. to_be_bytes w16 n ∷ [])
u16_codec =
    number_codec w16 (2 ^ 16) (λ n. refl) (λ bytes fits. omega (arith, fits 0, fits 1))
    (λ bytes len fits. be_bytes_2 bytes _ len fits refl) from_be_bytes-to_be_bytes_2

-- a number of four octets
pub u32_codec : {L : Stop → Type 0} → Codec L ℕ (number_at w32) (λ _ n. n < 2 ^ 32) (λ n. to_be_bytes w32 n ∷ [])
u32_codec =
    number_codec w32 (2 ^ 32) (λ n. refl) (λ bytes fits. omega (arith, fits 0, fits 1, fits 2, fits 3))
    (λ bytes len fits. be_bytes_4 bytes _ len fits refl) from_be_bytes-to_be_bytes_4

-- a number of eight octets
pub u64_codec : {L : Stop → Type 0} → Codec L ℕ (number_at w64) (λ _ n. n < 2 ^ 64) (λ n. to_be_bytes w64 n ∷ [])
u64_codec =
    number_codec w64 (2 ^ 64) (λ n. refl)
    (λ bytes fits. omega (arith, fits 0, fits 1, fits 2, fits 3, fits 4, fits 5, fits 6, fits 7))
    (λ bytes len fits. be_bytes_8 bytes _ len fits refl) from_be_bytes-to_be_bytes_8

-- ---- a number, and what it decides

-- a step that passes on what it got changes nothing
pub bind_end : {A : Type 0} (r : Result (A × List ℕ) Stop) → r ≡ (r >>= λ x. Ok (x.0, x.1))
bind_end (Ok x) = refl
bind_end (Err e) = refl

-- three steps may be grouped either way
bind_twice : {A B C : Type 0} (r : Result A Stop) (f : A → Result B Stop) (g : B → Result C Stop)
    → ((r >>= f) >>= g) ≡ (r >>= λ x. f x >>= g)
bind_twice (Ok x) f g = refl
bind_twice (Err e) f g = refl

-- what only the second of two steps gave is what is kept
then_second : {A B : Type 0} (r : Result (A × List ℕ) Stop) (b : A → List ℕ → Result (B × List ℕ) Stop)
    → (r >>= λ x. b x.0 x.1) ≡ ((r >>= λ x. b x.0 x.1 >>= λ y. gave {A = A × B} (x.0, y.0) y.1) >>= λ p. gave p.0.1 p.1)
then_second {A} {B} (Ok x) b =
    bind_end (b x.0 x.1)
    ∙ sym
    (bind_twice (b x.0 x.1) (λ (y : B × List ℕ). gave {A = A × B} (x.0, y.0) y.1)
    (λ (p : (A × B) × List ℕ). gave p.0.1 p.1))
then_second (Err e) b = refl

-- what the number says of what stands behind it can be told of that, as its length
pub behind_codec : {L : Stop → Type 0} {X : Type 0} {n : Reader ℕ} {N : Bool → ℕ → Type 0} {F : Bool → X → Type 0}
    {f : X → List (List ℕ)} (size : X → ℕ) (b : ℕ → Reader X)
    → Codec L ℕ n N (λ m. to_be_bytes w32 m ∷ [])
    → ((m : ℕ) → N false m → Codec L X (b m) (λ k x. (size x ≡ m) × F k x) f)
    → Codec L X (λ bytes. n bytes >>= λ m. b m.0 m.1) (λ k x. N k (size x) × F k x)
    (λ x. to_be_bytes w32 (size x) ∷ f x)
behind_codec {L} {X} {n} {N} {F} {f} size b cn cb =
    as_codec (λ bytes. n bytes >>= λ m. b m.0 m.1) (λ k x. N k (size x) × F k x) (λ x. to_be_bytes w32 (size x) ∷ f x)
    (λ p. p.1)
    (then_codec {b = b} {FB = λ k m x. (size x ≡ m) × F k x} cn cb)
    (λ bytes. then_second (n bytes) b)
    (λ k p h. (subst (N k) (sym h.1.0) h.0, h.1.1))
    (λ p h. ap (λ m. to_be_bytes w32 m ∷ f p.1) h.1.0)
    (λ k x h. ((size x, x), refl, (h.0, (refl, h.1))))

-- a run is its length, and as many octets
pub run_codec : {L : Stop → Type 0} → Codec L (List ℕ) run_at (λ _. IsRun) run_fields
unfolding run_at
run_codec = behind_codec {F = λ _. IsOctets} length octets_at u32_codec (λ n h. octets_codec n)

-- ---- so many of one kind

-- a list without elements is empty
none_is : {A : Type 0} (xs : List A) → length xs ≡ 0 → [] ≡ xs
none_is [] h = refl
none_is (x ∷ xs) h = absurd (omega arith)

-- no elements are read from nothing
pub none_codec : {L : Stop → Type 0} {A : Type 0} (Are : Bool → List A → Type 0) (fields : A → List (List ℕ))
    → ((k : Bool) → Are k [])
    → Codec L (List A) (λ bytes. Ok ([], bytes)) (λ k xs. (length xs ≡ 0) × Are k xs) (all_fields fields)
none_codec {L} {A} Are fields are =
    let made : List ℕ → List A × List ℕ = λ bytes. ([], bytes) in
    record {
      any = λ xs h. (h.0, subst (Are false) (none_is xs h.0) (are false));
      takes = λ bytes xs rest fits e.
          subst
          (λ (q : List A × List ℕ). ((length q.0 ≡ 0) × Are true q.0)
          × (bytes ≡ joined (all_fields fields q.0) ++ q.1)) (ok_is (made bytes) (xs, rest) e)
          ((refl, are true), refl);
      again =
          λ xs rest h.
          subst (λ ys. done (made (joined (all_fields fields ys) ++ rest)) ≡ Ok (ys, rest)) (none_is xs h.0) refl;
      fails = λ bytes e fits h. not_both (made bytes) e h;
      cut = λ xs bytes left h c. absurd (subst (λ ys. Cuts (all_fields fields ys) bytes left) (sym (none_is xs h.0)) c);
      kept = λ xs rest h. inl (h.0, subst (Are true) (none_is xs h.0) (are true));
      some = ([], (refl, are false));
      octets = λ xs h. subst (λ ys. IsOctets (joined (all_fields fields ys))) (none_is xs h.0) (λ i. omega arith);
    }

-- a list is its first element and the others
more_is : {A : Type 0} (next : A → Reader (List A)) (r : Result (A × List ℕ) Stop)
    → (r >>= λ first. next first.0 first.1 >>= λ others. gave (first.0 ∷ others.0) others.1)
    ≡ ((r >>= λ x. next x.0 x.1 >>= λ y. gave {A = A × List A} (x.0, y.0) y.1) >>= λ p. gave (p.0.0 ∷ p.0.1) p.1)
more_is {A} next (Ok x) =
    sym
    (bind_twice (next x.0 x.1) (λ (y : List A × List ℕ). gave {A = A × List A} (x.0, y.0) y.1)
    (λ (p : (A × List A) × List ℕ). gave (p.0.0 ∷ p.0.1) p.1))
more_is next (Err e) = refl

-- a list of one element more is that element and a shorter list
front : {A : Type 0} (F : A → Type 0) (G : A → List A → Type 0) (Are : List A → Type 0) (n : ℕ)
    → ((x : A) (xs : List A) → Are (x ∷ xs) → F x × G x xs)
    → (ys : List A) → (length ys ≡ suc n) × Are ys
    → (p : A × List A) × (p.0 ∷ p.1 ≡ ys) × (F p.0 × ((length p.1 ≡ n) × G p.0 p.1))
front F G Are n parts [] h = absurd (omega arith)
front F G Are n parts (x ∷ xs) h = let p = parts x xs h.1 in ((x, xs), refl, (p.0, (omega arith, p.1)))

-- one, and then others
pub more_codec : {L : Stop → Type 0} {A : Type 0} {read : Reader A} {F : Bool → A → Type 0}
    {G : Bool → A → List A → Type 0} {fields : A → List (List ℕ)} (n : ℕ) (next : A → Reader (List A))
    (Are : Bool → List A → Type 0)
    → Codec L A read F fields
    → ((x : A) → F false x → Codec L (List A) (next x) (λ k xs. (length xs ≡ n) × G k x xs) (all_fields fields))
    → ((k : Bool) (x : A) (xs : List A) → F k x → G k x xs → Are k (x ∷ xs))
    → ((k : Bool) (x : A) (xs : List A) → Are k (x ∷ xs) → F k x × G k x xs)
    → (b : Reader (List A))
    → ((bytes : List ℕ)
    → b bytes ≡ (read bytes >>= λ first. next first.0 first.1 >>= λ others. gave (first.0 ∷ others.0) others.1))
    → Codec L (List A) b (λ k xs. (length xs ≡ suc n) × Are k xs) (all_fields fields)
more_codec {L} {A} {read} {F} {G} {fields} n next Are c cs to from b same =
    as_codec b (λ k xs. (length xs ≡ suc n) × Are k xs) (all_fields fields) (λ p. p.0 ∷ p.1)
    (then_codec {b = next} {FB = λ k x xs. (length xs ≡ n) × G k x xs} c cs)
    (λ bytes. same bytes ∙ more_is next (read bytes))
    (λ k p h. (omega (arith, h.1.0), to k p.0 p.1 h.0 h.1.1))
    (λ p h. refl)
    (λ k ys h. front (F k) (G k) (Are k) n (from k) ys h)

-- so many elements are read one after the other
pub times_codec : {L : Stop → Type 0} {A : Type 0} {read : Reader A} {Fits : A → Type 0} {fields : A → List (List ℕ)}
    → Codec L A read (λ _. Fits) fields → (n : ℕ)
    → Codec L (List A) (times_at read n) (λ _ xs. (length xs ≡ n) × AllByRecursion Fits xs) (all_fields fields)
unfolding times_at
times_codec {L} {A} {read} {Fits} {fields} c zero = none_codec (λ _. AllByRecursion Fits) fields (λ _. tt)
times_codec {L} {A} {read} {Fits} {fields} c (suc n) =
    more_codec n (λ _. times_at read n) (λ _. AllByRecursion Fits) c (λ _ _. times_codec c n) (λ _ x xs h hs. (h, hs))
    (λ _ x xs h. h) (times_at read (suc n)) (λ bytes. refl)

-- ---- a count and that many of one kind

-- a list is its count, and as many elements
pub list_codec : {L : Stop → Type 0} {A : Type 0} {read : Reader A} {Fits : A → Type 0} {fields : A → List (List ℕ)}
    → Codec L A read (λ _. Fits) fields
    → Codec L (List A) (list_at read) (λ _. IsCounted Fits) (list_fields fields)
unfolding list_at
list_codec {L} {A} {read} {Fits} {fields} c =
    behind_codec {F = λ _. AllByRecursion Fits} length (times_at read) u32_codec (λ n h. times_codec c n)

-- ---- a number that is tested, and what it decides

-- a number stands in front
pub number_front : (n : ℕ) (rest : List ℕ) → n < 2 ^ 32 → number_at w32 (to_be_bytes w32 n ++ rest) ≡ Ok (n, rest)
number_front n rest lt =
    ap (λ (l : List ℕ). number_at w32 (l ++ rest)) (sym (append-nil (to_be_bytes w32 n)))
    ∙ (u32_codec {L = never}).again n rest lt

-- where reading stops at a limit, the number that is above it stands in front
pub guarded_stops : {X : Type 0} {Is : ℕ → Bool → X → Type 0} {f : X → List (List ℕ)} {b : ℕ → Reader X}
    (test : ℕ → Bool) (stop : ℕ → Stop) → ((m : ℕ) → m < 2 ^ 32 → Codec never X (b m) (Is m) f)
    → (bytes : List ℕ) (e : Stop) → IsOctets bytes → ((left : ℕ) → e ≡ Short left → ⊥)
    → ((number_at w32 bytes >>= λ n. cond (test n.0) (Err (stop n.0)) (Ok n)) >>= λ n. b n.0 n.1) ≡ Err e
    → (n : ℕ) × (n < 2 ^ 32) × (test n ≡ true) × (stop n ≡ e) × (rest : List ℕ) × (bytes ≡ to_be_bytes w32 n ++ rest)
guarded_stops {X} {Is} {f} {b} test stop cb bytes e fits long h =
    let guard : ℕ × List ℕ → Read ℕ = λ n. cond (test n.0) (Err (stop n.0)) (Ok n) in
    elim (bind_err (number_at w32 bytes >>= guard) (λ n. b n.0 n.1) e h) [
      | inl l ↦
          let n = second_stops (number_at w32 bytes) guard e l (never_stops u32_codec bytes e fits long) in
          let g = guard_err (test n.0.0) (stop n.0.0) e n.0 n.2 in
          let t = (u32_codec {L = never}).takes bytes n.0.0 n.0.1 fits n.1 in
          (n.0.0, t.0, g.0, g.1, n.0.1, t.1 ∙ ap (λ l. l ++ n.0.1) (append-nil (to_be_bytes w32 n.0.0)))
      | inr s ↦
          let t = (guard_codec {L = λ _. Unit {0}} test stop (λ _. tt) u32_codec).takes bytes s.0.0 s.0.1 fits s.1 in
          absurd
          (never_stops (cb s.0.0 t.0.0) s.0.1 e
          (IsOctets-rest bytes (joined (to_be_bytes w32 s.0.0 ∷ [])) s.0.1 fits t.1) long s.2)
    ]
