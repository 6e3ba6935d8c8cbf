-- A reader and the fields that it reads, and how readers go together.
use Rattle.std.proofs.Common.{◌≡◌, ℕ, zero, suc, Bool, true, false, cond, List, [], ◌∷◌, ◌++◌, take, replicate, Result}
use Rattle.std.proofs.Common.{Ok, Err, refl, sym, ap, subst, ◌∙◌, arith, inl, inr, ◌⊎◌}
use Rattle.std.proofs.lemmas.Bool.{cases_lt, cases_Bool}
use Rattle.std.proofs.lemmas.List.{length-take, get_or-take, get_or_past}
use Rattle.hsp_record.specs.declared.fault.Stop.{Stop}
use Rattle.hsp_record.specs.declared.fault.Stop.TheVariants.{Short}
use Rattle.hsp_record.specs.Fields.{IsOctets, joined}
use Rattle.hsp_text.specs.Answers.{◌>>=◌}
use Rattle.hsp_record.specs.Reading.{Reader, then_at, both_at, seen}
use Rattle.hsp_record.proofs.Cuts.{Cuts, joined-append, joined_then, cuts_left, cuts_right, cuts_split}
use Rattle.hsp_text.proofs.Steps.{first_step}

-- what is left of octets are octets
IsOctets-end : (f rest : List ℕ) → IsOctets (f ++ rest) → IsOctets rest
IsOctets-end [] rest h = h
IsOctets-end (x ∷ f) rest h = IsOctets-end f rest (λ i. h (suc i))

-- what was taken of octets are octets
pub IsOctets-front : (f rest : List ℕ) → IsOctets (f ++ rest) → IsOctets f
IsOctets-front [] rest h i = omega arith
IsOctets-front (x ∷ f) rest h zero = h zero
IsOctets-front (x ∷ f) rest h (suc i) = IsOctets-front f rest (λ k. h (suc k)) i

-- what stands behind a field of octets are octets
pub IsOctets-rest : (bytes f rest : List ℕ) → IsOctets bytes → bytes ≡ f ++ rest → IsOctets rest
IsOctets-rest bytes f rest h e = IsOctets-end f rest (subst IsOctets e h)

-- octets behind octets are octets
pub IsOctets-append : (a b : List ℕ) → IsOctets a → IsOctets b → IsOctets (a ++ b)
IsOctets-append [] b ha hb i = hb i
IsOctets-append (x ∷ a) b ha hb zero = ha zero
IsOctets-append (x ∷ a) b ha hb (suc i) = IsOctets-append a b (λ k. ha (suc k)) hb i

-- only a field
pub IsOctets-field : (f : List ℕ) → IsOctets f → IsOctets (joined (f ∷ []))
IsOctets-field f h = IsOctets-append f [] h (λ i. omega arith)

-- the first of octets are octets
pub IsOctets-take : (n : ℕ) (bytes : List ℕ) → IsOctets bytes → IsOctets (take n bytes)
IsOctets-take n bytes h i =
    elim (cases_lt i n) [
      | inl lt ↦ rw (get_or-take n bytes i 0 lt) (h i)
      | inr le ↦ rw (get_or_past (take n bytes) i 0 (omega (arith, length-take n bytes))) (omega arith)
    ]

-- zeros are octets
pub IsOctets-zeros : (n : ℕ) → IsOctets (replicate n 0)
IsOctets-zeros zero i = omega arith
IsOctets-zeros (suc n) zero = omega arith
IsOctets-zeros (suc n) (suc i) = IsOctets-zeros n i

-- ---- steps of reading

-- a fault of two steps is that of the first, or that of the second
pub bind_err : {A B : Type 0} (r : Result A Stop) (f : A → Result B Stop) (d : Stop) → (r >>= f) ≡ Err d
    → (r ≡ Err d) ⊎ ((x : A) × (r ≡ Ok x) × (f x ≡ Err d))
bind_err (Ok x) f d e = inr (x, refl, e)
bind_err (Err c) f d e = inl (let same : c ≡ d = cc in ap (λ (k : Stop). Err k) same)

-- the first of two steps stops, where the second does not
pub first_stops : {A B : Type 0} (r : Result A Stop) (f : A → Result B Stop) (d : Stop) → (r >>= f) ≡ Err d
    → ((x : A) → f x ≡ Err d → ⊥) → r ≡ Err d
first_stops r f d e second = elim (bind_err r f d e) [ inl l ↦ l | inr s ↦ absurd (second s.0 s.2) ]

-- the second of two steps stops, where the first does not stop so
pub second_stops : {A B : Type 0} (r : Result A Stop) (f : A → Result B Stop) (d : Stop) → (r >>= f) ≡ Err d
    → (r ≡ Err d → ⊥) → (x : A) × (r ≡ Ok x) × (f x ≡ Err d)
second_stops r f d e first = elim (bind_err r f d e) [ inl l ↦ absurd (first l) | inr s ↦ s ]

-- a test that decides between a stop and a value
pub guard_ok : {A : Type 0} (b : Bool) (d : Stop) (x y : A) → cond b (Err d) (Ok x) ≡ Ok y → (b ≡ false) × (x ≡ y)
guard_ok true d x y e = absurd cc
guard_ok false d x y e = (refl, cc)

-- a refused guard gave its own fault
pub guard_err : {A : Type 0} (b : Bool) (d e : Stop) (x : A) → cond b (Err d) (Ok x) ≡ Err e → (b ≡ true) × (d ≡ e)
guard_err true d e x h = (refl, cc)
guard_err false d e x h = absurd cc

abbrev pub done : {A : Type 0} → A → Result A Stop
done x = Ok x

-- a value and the octets after it
abbrev pub gave : {A : Type 0} → A → List ℕ → Result (A × List ℕ) Stop
gave x rest = Ok (x, rest)

-- a result has one value
pub ok_is : {A : Type 0} (x y : A) → done x ≡ done y → x ≡ y
ok_is x y e = cc

-- a result is not a value and a fault at once
pub not_both : {A C : Type 0} (x : A) (d : Stop) → done x ≡ Err d → C
not_both x d e = absurd cc

-- ---- a reader and its fields

-- reading stops, for such a reason
abbrev pub StopsBy : {A : Type 0} → (Stop → Type 0) → Result A Stop → Type 0
StopsBy Why r = (stop : Stop) × Why stop × (r ≡ Err stop)

-- a first step that stops for a reason stops both
stops_on : {A B : Type 0} {Why : Stop → Type 0} (r : Result A Stop) (f : A → Result B Stop) → StopsBy Why r
    → StopsBy Why (r >>= f)
stops_on r f s = (s.0, s.1, ap (λ q. q >>= f) s.2)

-- A reader, its values and their fields. `Is true` says that a value is within the limits, `Is false` that it is one
-- but for them.
-- `Limit` says at which limits reading stops.
pub record Codec (Limit : Stop → Type 0) (A : Type 0) (read : Reader A) (Is : Bool → A → Type 0)
    (fields : A → List (List ℕ)) : Type 0 where
  pub any : (x : A) → Is true x → Is false x
  -- what is read is spelled so
  pub takes : (bytes : List ℕ) (x : A) (rest : List ℕ) → IsOctets bytes → read bytes ≡ Ok (x, rest)
      → Is true x × (bytes ≡ joined (fields x) ++ rest)
  -- what is spelled so is read, whatever follows
  pub again : (x : A) (rest : List ℕ) → Is true x → read (joined (fields x) ++ rest) ≡ Ok (x, rest)
  -- where reading stops at no limit, the octets end inside some value's fields
  pub fails : (bytes : List ℕ) (e : Stop) → IsOctets bytes → read bytes ≡ Err e
      → Limit e ⊎ ((left : ℕ) × (e ≡ Short left) × (x : A) × Is false x × Cuts (fields x) bytes left)
  -- where they end inside some value's fields, reading stops there, or at a limit
  pub cut : (x : A) (bytes : List ℕ) (left : ℕ) → Is false x → Cuts (fields x) bytes left
      → StopsBy (λ e. (e ≡ Short left) ⊎ Limit e) (read bytes)
  -- a value is within the limits, or reading stops at one
  pub kept : (x : A) (rest : List ℕ) → Is false x → Is true x ⊎ StopsBy Limit (read (joined (fields x) ++ rest))
  pub some : (x : A) × Is false x
  -- what is spelled are octets
  pub octets : (x : A) → Is false x → IsOctets (joined (fields x))

-- no limit
abbrev pub never : Stop → Type 0
never e = ⊥

-- a reader without a limit stops only where the octets end
pub never_stops : {A : Type 0} {read : Reader A} {Is : Bool → A → Type 0} {fields : A → List (List ℕ)}
    (c : Codec never A read Is fields) (bytes : List ℕ) (e : Stop) → IsOctets bytes
    → ((left : ℕ) → e ≡ Short left → ⊥) → read bytes ≡ Err e → ⊥
never_stops c bytes e fits long h = elim (c.fails bytes e fits h) [ inl l ↦ l | inr f ↦ long f.0 f.1 ]

-- ---- one after the other

-- a reader and one that depends on what it gave read what both read
pub then_codec : {L : Stop → Type 0} {A B : Type 0} {a : Reader A} {b : A → Reader B} {FA : Bool → A → Type 0}
    {FB : Bool → A → B → Type 0} {fa : A → List (List ℕ)} {fb : B → List (List ℕ)}
    → Codec L A a FA fa → ((x : A) → FA false x → Codec L B (b x) (λ k. FB k x) fb)
    → Codec L (A × B) (then_at a b) (λ k p. FA k p.0 × FB k p.0 p.1) (λ p. fa p.0 ++ fb p.1)
then_codec {L} {A} {B} {a} {b} {FA} {FB} {fa} {fb} ca cb =
    let second : A × List ℕ → Result ((A × B) × List ℕ) Stop = λ x. b x.0 x.1 >>= λ y. Ok ((x.0, y.0), y.1) in
    let third : A → B × List ℕ → Result ((A × B) × List ℕ) Stop = λ x y. Ok ((x, y.0), y.1) in
    let parted = λ (x : A) (y : B) (rest : List ℕ). sym (joined_then (fa x) (fb y) _ _ rest refl refl) in
    let after : (x : A) (rest : List ℕ) → FA true x → then_at a b (joined (fa x) ++ rest) ≡ (b x rest >>= third x) =
    λ x rest h. ap (λ r. r >>= second) (ca.again x rest h) in
    record {
      any = λ p h. let x = ca.any p.0 h.0 in (x, (cb p.0 x).any p.1 h.1);
      takes = λ bytes p rest fits e.
          let s = first_step (a bytes) second (p, rest) e in
          let t = first_step (b s.0.0 s.0.1) (third s.0.0) (p, rest) s.2 in
          let one = ca.takes bytes s.0.0 s.0.1 fits s.1 in
          let two =
          (cb s.0.0 (ca.any s.0.0 one.0)).takes s.0.1 t.0.0 t.0.1
          (IsOctets-rest bytes (joined (fa s.0.0)) s.0.1 fits one.1) t.1 in
          let made : (A × B) × List ℕ = ((s.0.0, t.0.0), t.0.1) in
          let parts = joined_then (fa s.0.0) (fb t.0.0) bytes s.0.1 t.0.1 one.1 two.1 in
          subst
          (λ (y : (A × B) × List ℕ). (FA true y.0.0 × FB true y.0.0 y.0.1)
          × (bytes ≡ joined (fa y.0.0 ++ fb y.0.1) ++ y.1)) (ok_is made (p, rest) t.2) ((one.0, two.0), parts);
      again = λ p rest h.
          ap (then_at a b) (parted p.0 p.1 rest) ∙ after p.0 (joined (fb p.1) ++ rest) h.0
          ∙ ap (λ r. r >>= third p.0) ((cb p.0 (ca.any p.0 h.0)).again p.1 rest h.1);
      fails = λ bytes e fits h.
          elim (bind_err (a bytes) second e h) [
            | inl l ↦ elim (ca.fails bytes e fits l) [
              | inl limit ↦ inl limit
              | inr f ↦ let y =
                  (cb f.2 f.3).some in inr (f.0, f.1, (f.2, y.0), (f.3, y.1), cuts_left (fa f.2) (fb y.0) bytes f.0 f.4)
            ]
            | inr s ↦
                let one = ca.takes bytes s.0.0 s.0.1 fits s.1 in
                let x = ca.any s.0.0 one.0 in
                elim (bind_err (b s.0.0 s.0.1) (third s.0.0) e s.2) [
                  | inl l ↦
                      elim ((cb s.0.0 x).fails s.0.1 e (IsOctets-rest bytes (joined (fa s.0.0)) s.0.1 fits one.1) l) [
                        | inl limit ↦ inl limit
                        | inr f ↦
                            inr (
                              f.0,
                              f.1,
                              (s.0.0, f.2),
                              (x, f.3),
                              cuts_right (fa s.0.0) (fb f.2) bytes s.0.1 f.0 one.1 f.4,
                            )
                      ]
                  | inr t ↦ not_both ((s.0.0, t.0.0), t.0.1) e t.2
                ]
          ];
      cut = λ p bytes left h c.
          elim (cuts_split (fa p.0) (fb p.1) bytes left c) [
            | inl l ↦ stops_on (a bytes) second (ca.cut p.0 bytes left h.0 l)
            | inr r ↦ rw r.1 (elim (ca.kept p.0 r.0 h.0) [
              | inl fits ↦
                  rw (after p.0 r.0 fits) (stops_on (b p.0 r.0) (third p.0) ((cb p.0 h.0).cut p.1 r.0 left h.1 r.2))
              | inr s ↦ stops_on (a (joined (fa p.0) ++ r.0)) second (s.0, inr s.1, s.2)
            ])
          ];
      kept = λ p rest h. rw (parted p.0 p.1 rest) (elim (ca.kept p.0 (joined (fb p.1) ++ rest) h.0) [
        | inl one ↦ elim ((cb p.0 h.0).kept p.1 rest h.1) [
          | inl two ↦ inl (one, two)
          | inr s ↦
              inr
              (rw (after p.0 (joined (fb p.1) ++ rest) one) (stops_on (b p.0 (joined (fb p.1) ++ rest)) (third p.0) s))
        ]
        | inr s ↦ inr (stops_on (a (joined (fa p.0) ++ (joined (fb p.1) ++ rest))) second s)
      ]);
      some = let x = ca.some in let y = (cb x.0 x.1).some in ((x.0, y.0), (x.1, y.1));
      octets = λ p h.
          subst IsOctets (sym (joined-append (fa p.0) (fb p.1)))
          (IsOctets-append (joined (fa p.0)) (joined (fb p.1)) (ca.octets p.0 h.0) ((cb p.0 h.0).octets p.1 h.1));
    }

-- two readers in turn read what both read
pub both_codec : {L : Stop → Type 0} {A B : Type 0} {a : Reader A} {b : Reader B} {FA : Bool → A → Type 0}
    {FB : Bool → B → Type 0} {fa : A → List (List ℕ)} {fb : B → List (List ℕ)}
    → Codec L A a FA fa → Codec L B b FB fb
    → Codec L (A × B) (both_at a b) (λ k p. FA k p.0 × FB k p.1) (λ p. fa p.0 ++ fb p.1)
both_codec {L} {A} {B} {a} {b} {FA} {FB} {fa} {fb} ca cb = then_codec {b = λ _. b} {FB = λ k _. FB k} ca (λ _ _. cb)

-- ---- the same, seen as another type

-- a reader whose value is only shown otherwise reads the same fields
pub as_codec : {L : Stop → Type 0} {A B : Type 0} {a : Reader A} {FA : Bool → A → Type 0} {fa : A → List (List ℕ)}
    (b : Reader B) (FB : Bool → B → Type 0) (fb : B → List (List ℕ)) (f : A → B)
    → Codec L A a FA fa → ((bytes : List ℕ) → b bytes ≡ (a bytes >>= λ x. Ok (f x.0, x.1)))
    → ((k : Bool) (x : A) → FA k x → FB k (f x)) → ((x : A) → FA false x → fb (f x) ≡ fa x)
    → ((k : Bool) (y : B) → FB k y → (x : A) × (f x ≡ y) × FA k x) → Codec L B b FB fb
as_codec {L} {A} {B} {a} {FA} {fa} b FB fb f ca same to fields from =
    let view : A × List ℕ → Result (B × List ℕ) Stop = λ x. Ok (f x.0, x.1) in
    record {
      any = λ y h. let x = from true y h in subst (FB false) x.1 (to false x.0 (ca.any x.0 x.2));
      takes = λ bytes y rest fits e.
          let s = first_step (a bytes) view (y, rest) (sym (same bytes) ∙ e) in
          let t = ca.takes bytes s.0.0 s.0.1 fits s.1 in
          let made : B × List ℕ = (f s.0.0, s.0.1) in
          subst (λ (q : B × List ℕ). FB true q.0 × (bytes ≡ joined (fb q.0) ++ q.1)) (ok_is made (y, rest) s.2)
          (to true s.0.0 t.0, rw (fields s.0.0 (ca.any s.0.0 t.0)) t.1);
      again = λ y rest h.
          let (x, is, k) = from true y h in
          rw (← is, fields x (ca.any x k), same (joined (fa x) ++ rest), ca.again x rest k) refl;
      fails = λ bytes e fits h.
          elim (bind_err (a bytes) view e (sym (same bytes) ∙ h)) [
            | inl l ↦ elim (ca.fails bytes e fits l) [
              | inl limit ↦ inl limit
              | inr k ↦ inr (k.0, k.1, f k.2, to false k.2 k.3, rw (fields k.2 k.3) k.4)
            ]
            | inr s ↦ not_both (f s.0.0, s.0.1) e s.2
          ];
      cut = λ y bytes left h c.
          let x = from false y h in
          rw (same bytes)
          (stops_on (a bytes) view
          (ca.cut x.0 bytes left x.2 (subst (λ l. Cuts l bytes left) (ap fb (sym x.1) ∙ fields x.0 x.2) c)));
      kept = λ y rest h.
          let x = from false y h in
          subst (λ z. FB true z ⊎ StopsBy L (b (joined (fb z) ++ rest))) x.1 (elim (ca.kept x.0 rest x.2) [
            | inl k ↦ inl (to true x.0 k)
            | inr s ↦
                inr
                (rw (fields x.0 x.2, same (joined (fa x.0) ++ rest)) (stops_on (a (joined (fa x.0) ++ rest)) view s))
          ]);
      some = let x = ca.some in (f x.0, to false x.0 x.1);
      octets =
          λ y h. let x = from false y h in
          subst (λ z. IsOctets (joined (fb z))) x.1 (rw (fields x.0 x.2) (ca.octets x.0 x.2));
    }

-- the same by the fields of the value that it is seen as
pub seen_codec : {L : Stop → Type 0} {A B : Type 0} {a : Reader A} {FA : Bool → A → Type 0} {FB : Bool → B → Type 0}
    {fb : B → List (List ℕ)} (f : A → B) → Codec L A a FA (λ x. fb (f x))
    → ((k : Bool) (x : A) → FA k x → FB k (f x)) → ((k : Bool) (y : B) → FB k y → (x : A) × (f x ≡ y) × FA k x)
    → Codec L B (seen f a) FB fb
seen_codec {L} {A} {B} {a} {FA} {FB} {fb} f ca to from =
    as_codec (seen f a) FB fb f ca (λ bytes. refl) to (λ x h. refl) from

-- ---- a test of what was read

-- what a limit tests is false of a value that is within it
abbrev pub Kept : Bool → Bool → Type 0
Kept true t = t ≡ false
Kept false t = Unit {0}

-- a reader that refuses some values reads the fields of the others
pub guard_codec : {L : Stop → Type 0} {A : Type 0} {a : Reader A} {FA : Bool → A → Type 0} {fa : A → List (List ℕ)}
    (test : A → Bool) (stop : A → Stop) → ((x : A) → L (stop x)) → Codec L A a FA fa
    → Codec L A (λ bytes. a bytes >>= λ x. cond (test x.0) (Err (stop x.0)) (Ok x)) (λ k x. FA k x × Kept k (test x)) fa
guard_codec {L} {A} {a} {FA} {fa} test stop limit ca =
    let guard : A × List ℕ → Result (A × List ℕ) Stop = λ x. cond (test x.0) (Err (stop x.0)) (Ok x) in
    record {
      any = λ x h. (ca.any x h.0, tt);
      takes = λ bytes x rest fits e.
          let s = first_step (a bytes) guard (x, rest) e in
          let g = guard_ok (test s.0.0) (stop s.0.0) s.0 (x, rest) s.2 in
          let t = ca.takes bytes s.0.0 s.0.1 fits s.1 in
          subst (λ (q : A × List ℕ). (FA true q.0 × (test q.0 ≡ false)) × (bytes ≡ joined (fa q.0) ++ q.1)) g.1
          ((t.0, g.0), t.1);
      again = λ x rest h. rw (ca.again x rest h.0, h.1) refl;
      fails = λ bytes e fits h.
          elim (bind_err (a bytes) guard e h) [
            | inl l ↦
                elim (ca.fails bytes e fits l) [ inl limit ↦ inl limit | inr f ↦ inr (f.0, f.1, f.2, (f.3, tt), f.4) ]
            | inr s ↦ inl (subst L (guard_err (test s.0.0) (stop s.0.0) e s.0 s.2).1 (limit s.0.0))
          ];
      cut = λ x bytes left h c. stops_on (a bytes) guard (ca.cut x bytes left h.0 c);
      kept = λ x rest h.
          elim (ca.kept x rest h.0) [
            | inl k ↦ elim (cases_Bool (test x)) [
              | inl met ↦ inr (stop x, limit x, rw (ca.again x rest k, met) refl)
              | inr new ↦ inl (k, new)
            ]
            | inr s ↦ inr (stops_on (a (joined (fa x) ++ rest)) guard s)
          ];
      some = let x = ca.some in (x.0, (x.1, tt));
      octets = λ x h. ca.octets x h.0;
    }
