-- Where octets end inside a list of fields, by recursion on the fields.
use Rattle.std.proofs.Common.{◌≡◌, ℕ, ◌+◌, ◌-◌, ◌<◌, ◌≤◌, List, [], ◌∷◌, ◌++◌, length, refl, sym, ap, subst, ◌∙◌}
use Rattle.std.proofs.Common.{append_assoc, arith, inl, inr, ◌⊎◌, length-append}
use Rattle.hsp_record.specs.Fields.{joined, EndsIn}

-- the octets end inside the field
pub record InField (field octets : List ℕ) (left : ℕ) : Type 0 where
  pub more : List ℕ
  pub parts : field ≡ octets ++ more
  pub some : 0 < length more
  pub left-is : left ≡ length octets

abbrev pub Cuts : List (List ℕ) → List ℕ → ℕ → Type 0
Cuts [] octets left = ⊥
Cuts (f ∷ fs) octets left = InField f octets left ⊎ ((rest : List ℕ) × (octets ≡ f ++ rest) × Cuts fs rest left)

-- two lists of fields are joined one after the other
pub joined-append : (fs gs : List (List ℕ)) → joined (fs ++ gs) ≡ joined fs ++ joined gs
joined-append [] gs = refl
joined-append (f ∷ fs) gs =
    ap (λ (x : List ℕ). f ++ x) (joined-append fs gs) ∙ sym (append_assoc f (joined fs) (joined gs))

-- fields behind fields
pub joined_then : (fs gs : List (List ℕ)) (octets rest more : List ℕ) → octets ≡ joined fs ++ rest
    → rest ≡ joined gs ++ more → octets ≡ joined (fs ++ gs) ++ more
joined_then fs gs octets rest more e h =
    e ∙ ap (λ l. joined fs ++ l) h ∙ sym (append_assoc (joined fs) (joined gs) more)
    ∙ ap (λ l. l ++ more) (sym (joined-append fs gs))

-- octets that end in the first fields end in all of them
pub cuts_left : (fs gs : List (List ℕ)) (octets : List ℕ) (left : ℕ) → Cuts fs octets left → Cuts (fs ++ gs) octets left
cuts_left [] gs octets left cut = absurd cut
cuts_left (f ∷ fs) gs octets left cut =
    elim cut [
      | inl here ↦ inl here
      | inr later ↦ inr (later.0, later.1, cuts_left fs gs later.0 left later.2)
    ]

-- octets that end in the later fields end in all of them
pub cuts_right : (fs gs : List (List ℕ)) (octets rest : List ℕ) (left : ℕ) → octets ≡ joined fs ++ rest
    → Cuts gs rest left → Cuts (fs ++ gs) octets left
cuts_right [] gs octets rest left e cut = subst (λ (x : List ℕ). Cuts gs x left) (sym e) cut
cuts_right (f ∷ fs) gs octets rest left e cut =
    inr
    (joined fs ++ rest, e ∙ append_assoc f (joined fs) rest, cuts_right fs gs (joined fs ++ rest) rest left refl cut)

-- octets that end in two lists of fields end in the first or in the second
pub cuts_split : (fs gs : List (List ℕ)) (octets : List ℕ) (left : ℕ) → Cuts (fs ++ gs) octets left
    → Cuts fs octets left ⊎ ((rest : List ℕ) × (octets ≡ joined fs ++ rest) × Cuts gs rest left)
cuts_split [] gs octets left cut = inr (octets, refl, cut)
cuts_split (f ∷ fs) gs octets left cut =
    elim cut [
      | inl here ↦ inl (inl here)
      | inr later ↦ elim (cuts_split fs gs later.0 left later.2) [
        | inl in_fs ↦ inl (inr (later.0, later.1, in_fs))
        | inr in_gs ↦
            inr
            (in_gs.0, later.1 ∙ ap (λ (x : List ℕ). f ++ x) in_gs.1 ∙ sym (append_assoc f (joined fs) in_gs.0), in_gs.2)
      ]
    ]

-- ---- the two forms

-- octets that end behind a first field end later by its length
later_end : (f : List ℕ) (fs : List (List ℕ)) (octets rest : List ℕ) (at : ℕ) → octets ≡ f ++ rest → EndsIn fs rest at
    → EndsIn (f ∷ fs) octets (length f + at)
later_end f fs octets rest at e ends = record {
  before = f ∷ ends.before;
  field = ends.field;
  after = ends.after;
  parts = ap (λ (x : List (List ℕ)). f ∷ x) ends.parts;
  begins = omega (arith, length-append f (joined ends.before), ends.begins);
  there = omega (arith, ap length e, length-append f rest, ends.there);
  past = omega (arith, ap length e, length-append f rest, ends.past);
  more = ends.more;
  prefix =
      ap (λ (x : List ℕ). f ++ x) ends.prefix ∙ sym (append_assoc f rest ends.more)
      ∙ ap (λ (x : List ℕ). x ++ ends.more) (sym e);
}

-- what is left is no more than there is
pub cuts_within : (fs : List (List ℕ)) (octets : List ℕ) (left : ℕ) → Cuts fs octets left → left ≤ length octets
cuts_within [] octets left cut = absurd cut
cuts_within (f ∷ fs) octets left cut =
    elim cut [
      | inl here ↦ omega (arith, here.left-is)
      | inr later ↦ omega (arith, cuts_within fs later.0 left later.2, ap length later.1, length-append f later.0)
    ]

-- where octets end by recursion, they end at that place
pub ends_from_cuts : (fs : List (List ℕ)) (octets : List ℕ) (left : ℕ) → Cuts fs octets left
    → EndsIn fs octets (length octets - left)
ends_from_cuts [] octets left cut = absurd cut
ends_from_cuts (f ∷ fs) octets left cut =
    elim cut [
      | inl here ↦ record {
        before = [];
        field = f;
        after = fs;
        parts = refl;
        begins = omega (arith, here.left-is);
        there = omega (arith, here.left-is);
        past = omega (arith, here.left-is, ap length here.parts, length-append octets here.more, here.some);
        more = here.more ++ joined fs;
        prefix = ap (λ (x : List ℕ). x ++ joined fs) here.parts ∙ append_assoc octets here.more (joined fs);
      }
      | inr later ↦
          let at : length octets - left ≡ length f + (length later.0 - left) =
          omega (arith, cuts_within fs later.0 left later.2, ap length later.1, length-append f later.0) in
          subst (λ (k : ℕ). EndsIn (f ∷ fs) octets k) (sym at)
          (later_end f fs octets later.0 (length later.0 - left) later.1 (ends_from_cuts fs later.0 left later.2))
    ]

-- of two ways to part a text, the longer front begins with the shorter one
split_longer : (a b c d : List ℕ) → a ++ b ≡ c ++ d → length c ≤ length a → (m : List ℕ) × (a ≡ c ++ m) × (d ≡ m ++ b)
split_longer a b [] d e le = (a, refl, sym e)
split_longer [] b (x ∷ c) d e le = absurd (omega arith)
split_longer (y ∷ a) b (x ∷ c) d e le =
    let heads : y ≡ x = cc in
    let tails : a ++ b ≡ c ++ d = cc in
    let r = split_longer a b c d tails (omega arith) in
    (r.0, ap (λ (k : ℕ). k ∷ a) heads ∙ ap (λ (l : List ℕ). x ∷ l) r.1, r.2)

-- octets that reach into a field, and not to its end, end there
cuts_from_parts : (before : List (List ℕ)) (field : List ℕ) (after : List (List ℕ)) (octets more : List ℕ)
    → joined (before ++ (field ∷ after)) ≡ octets ++ more
    → length (joined before) ≤ length octets → length octets < length (joined before) + length field
    → Cuts (before ++ (field ∷ after)) octets (length octets - length (joined before))
cuts_from_parts [] field after octets more e there past =
    let s = split_longer field (joined after) octets more e (omega arith) in
    inl
    (record {
      more = s.0;
      parts = s.1;
      some = omega (arith, ap length s.1, length-append octets s.0, past);
      left-is = omega arith;
    })
cuts_from_parts (f ∷ before) field after octets more e there past =
    let s =
    split_longer octets more f (joined (before ++ (field ∷ after))) (sym e)
    (omega (arith, there, length-append f (joined before))) in
    let len : length octets ≡ length f + length s.0 = ap length s.1 ∙ length-append f s.0 in
    let at : length s.0 - length (joined before) ≡ length octets - length (f ++ joined before) =
    omega (arith, len, length-append f (joined before)) in
    inr (
      s.0,
      s.1,
      subst (λ (k : ℕ). Cuts (before ++ (field ∷ after)) s.0 k) at
          (cuts_from_parts before field after s.0 more s.2 (omega (arith, len, there, length-append f (joined before)))
          (omega (arith, len, past, length-append f (joined before)))),
    )

-- where octets end at a place, they end so by recursion
pub cuts_from_ends : (fs : List (List ℕ)) (octets : List ℕ) (at : ℕ) → EndsIn fs octets at
    → Cuts fs octets (length octets - at)
cuts_from_ends fs octets at ends =
    let k : length octets - length (joined ends.before) ≡ length octets - at = omega (arith, ends.begins) in
    subst (λ (l : List (List ℕ)). Cuts l octets (length octets - at)) (sym ends.parts)
    (subst (λ (n : ℕ). Cuts (ends.before ++ (ends.field ∷ ends.after)) octets n) k
    (cuts_from_parts ends.before ends.field ends.after octets ends.more (ap joined (sym ends.parts) ∙ ends.prefix)
    (omega (arith, ends.begins, ends.there)) (omega (arith, ends.begins, ends.past))))
