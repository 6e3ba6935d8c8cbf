-- Texts cut at their dots and at their first slash.
use Rattle.std.proofs.Common.{◌≡◌, ◌<◌, ◌+◌, ◌-◌, ◌∙◌, ◌++◌, ◌==◌, ℕ, suc, Bool, true, false, not, List, [], ◌∷◌}
use Rattle.std.proofs.Common.{length, take, drop, get_or, Option, Some, None, inl, inr, ap, sym, refl, arith, position}
use Rattle.std.specs.Prelude.{IfNone, IfSome, OnSome}
use Rattle.std.specs.List.{AllByRecursion, list_all, list_any, slice_split, onto_first, position_or_len, before_first}
use Rattle.std.specs.List.{join_with_byte}
use Rattle.std.proofs.lemmas.List.{take_rest, take-append-drop}
use Rattle.std.proofs.Math.Seq.{drop-cons}
use Rattle.std.proofs.lemmas.List.Sums.{prefix_len_stops}
use Rattle.std.proofs.lemmas.List.Splits.{slice_split_first, slice_split_at, length-slice_split}
use Rattle.std.proofs.lemmas.List.Splits.{join_with_byte-slice_split}
use Rattle.std.proofs.lemmas.Bool.Decides.{nat_tests}
use Rattle.std.proofs.lemmas.Bool.{cases_Bool, eqb-true, or_from, and_parts, not-false}
use Rattle.std.proofs.lemmas.List.Folds.{list_any-append, list_any_at}
use Rattle.std.specs.List as by_index
use Rattle.hsp_names.specs.Handle.{is_slash, is_dot, has_slash, has_dot, IsSegment, IsNamingAuthority, has_segments}
use Rattle.hsp_names.specs.Handle.{naming_authority, local_name}

-- a place that `position` gives
pub place_of : (p : ℕ → Bool) (xs : List ℕ) (i : ℕ) → Some i ≡ position p xs
    → (i < length xs) × (i ≡ position_or_len p xs)
place_of p xs i e = grind (arith, nat_tests)

-- the first octet that passes is there where some octet passes
first_within : (p : ℕ → Bool) (xs : List ℕ) → list_any p xs ≡ true → position_or_len p xs < length xs
first_within p [] a = absurd cc
first_within p (x ∷ xs) a = grind (arith, first_within p xs)

-- where no octet passes a test, each fails it
All-fails : (p : ℕ → Bool) (xs : List ℕ) → list_any p xs ≡ false → by_index.All (λ x. p x ≡ false) xs
All-fails p xs e = λ k d l. grind (arith, list_any_at p xs k d l)

-- where `position` gives none, none passes
pub no_place : (p : ℕ → Bool) (xs : List ℕ) → ◌≡◌ {A = Option ℕ} None (position p xs) → list_any p xs ≡ false
no_place p xs e = grind (arith, nat_tests, first_within p xs)

-- a text without a dot is one piece
pub one_piece : (p : ℕ → Bool) (xs : List ℕ) → list_any p xs ≡ false → slice_split p xs ≡ xs ∷ []
one_piece p [] a = refl
one_piece p (x ∷ xs) a = grind (arith, one_piece p xs)

-- the first piece ends at the first dot
pub first_piece : (text : List ℕ) (i : ℕ) → Some i ≡ position is_dot text →
    slice_split is_dot text ≡ take i text ∷ slice_split is_dot (take (length text - (i + 1)) (drop (i + 1) text))
first_piece text i e =
    let place = place_of is_dot text i e in
    let cut = take_rest text (i + 1) in
    let within : position_or_len is_dot text < length text = rw (← place.1) place.0 in
    rw (cut, place.1) (slice_split_first is_dot text 0 within)

-- before the first octet that passes none does
before_clean : (p : ℕ → Bool) (xs : List ℕ) → list_any p (before_first p xs) ≡ false
before_clean p [] = refl
before_clean p (x ∷ xs) = elim (cases_Bool (p x)) [
  | inl passes ↦ rw passes refl
  | inr fails ↦
      let at : position_or_len p (x ∷ xs) ≡ suc (position_or_len p xs) = rw fails (omega arith) in
      rw at (grind (arith, before_clean p xs))
]

-- the octet at the place of the first that passes
passes_there : (p : ℕ → Bool) (xs : List ℕ) → position_or_len p xs < length xs
    → p (get_or xs (position_or_len p xs) 0) ≡ true
passes_there p xs l = not-false (p (get_or xs (position_or_len p xs) 0)) (prefix_len_stops (λ x. not (p x)) xs 0 l)

-- a text with a slash is its parts joined by one
pub slash_parts : (h : List ℕ) → has_slash h ≡ true
    → (h ≡ naming_authority h ++ 47 ∷ local_name h) × (has_slash (naming_authority h) ≡ false)
slash_parts h some =
    let i = position_or_len is_slash h in
    let l = first_within is_slash h some in
    let octet : get_or h i 0 ≡ 47 = eqb-true (get_or h i 0) 47 (passes_there is_slash h l) in
    let behind : drop i h ≡ 47 ∷ drop (suc i) h = drop-cons h i 0 l ∙ ap (λ o. o ∷ drop (suc i) h) octet in
    let next : suc i ≡ i + 1 = omega arith in (
      sym (take-append-drop i h) ∙ ap (λ (t : List ℕ). take i h ++ t) (behind ∙ ap (λ k. 47 ∷ drop k h) next),
      before_clean is_slash h,
    )

-- a slash that was found
slash_found : (h : List ℕ) (i : ℕ) → Some i ≡ position is_slash h
    → (has_slash h ≡ true) × (take i h ≡ naming_authority h) × (i < length h) × (i ≡ position_or_len is_slash h)
slash_found h i e =
    let place =
    place_of is_slash h i e in
    grind (arith, passes_there is_slash h, list_any_at is_slash h (position_or_len is_slash h) 0)

-- an octet that fails a test may be put before the first segment
onto_each : (q : ℕ → Bool) (x : ℕ) (ss : List (List ℕ)) → q x ≡ false → AllByRecursion (λ s. list_any q s ≡ false) ss
    → AllByRecursion (λ s. list_any q s ≡ false) (onto_first x ss)
onto_each q x [] e h = (or_from (q x) false e refl, tt)
onto_each q x (s ∷ ss) e h = (grind (arith, h.0), h.1)

-- the pieces between dots have none
piece_dotless : (p : ℕ → Bool) (xs : List ℕ) → AllByRecursion (λ s. list_any p s ≡ false) (slice_split p xs)
piece_dotless p [] = (refl, tt)
piece_dotless p (x ∷ xs) = grind (arith, onto_each p x (slice_split p xs), piece_dotless p xs)

-- the pieces have only what the text has
piece_of : (p q : ℕ → Bool) (xs : List ℕ) → list_any q xs ≡ false
    → AllByRecursion (λ s. list_any q s ≡ false) (slice_split p xs)
piece_of p q [] a = (refl, tt)
piece_of p q (x ∷ xs) a = grind (arith, onto_each q x (slice_split p xs), piece_of p q xs)

-- segments joined by dots are cut at the dots again
segments_again : (s : List ℕ) (ss : List (List ℕ)) → AllByRecursion IsSegment (s ∷ ss)
    → slice_split is_dot (join_with_byte 46 (s ∷ ss)) ≡ s ∷ ss
segments_again s [] h = one_piece is_dot s h.0.1
segments_again s (t ∷ ss) h =
    let first = slice_split_at is_dot s 46 (join_with_byte 46 (t ∷ ss)) (All-fails is_dot s h.0.1) refl in
    rw (first, segments_again t ss h.1) refl

-- segments that are joined by dots have no slash
slashless : (ss : List (List ℕ)) → AllByRecursion IsSegment ss → has_slash (join_with_byte 46 ss) ≡ false
slashless [] h = refl
slashless (s ∷ []) h = h.0.2
slashless (s ∷ t ∷ ss) h =
    rw (list_any-append is_slash s (46 ∷ join_with_byte 46 (t ∷ ss))) (grind (arith, h.0.2, slashless (t ∷ ss) h.1))

-- no segment is empty
nonempty : (ss : List (List ℕ)) → AllByRecursion IsSegment ss → list_all (λ s. not (length s == 0)) ss ≡ true
nonempty [] h = refl
nonempty (s ∷ ss) h = grind (arith, nat_tests, h.0.0, nonempty ss h.1)

-- parts that are not empty, without a dot and a slash, are segments
segments_from : (ss : List (List ℕ)) → list_all (λ s. not (length s == 0)) ss ≡ true
    → AllByRecursion (λ s. has_dot s ≡ false) ss → AllByRecursion (λ s. has_slash s ≡ false) ss
    → AllByRecursion IsSegment ss
segments_from [] a d l = tt
segments_from (s ∷ ss) a d l =
    let parts = and_parts (not (length s == 0)) (list_all (λ t. not (length t == 0)) ss) a in
    ((grind (arith, nat_tests, parts.0), d.0, l.0), segments_from ss parts.1 d.1 l.1)

-- a naming authority has segments at its dots, and no slash
pub authority_is_cut : (n : List ℕ) → IsNamingAuthority n → (has_segments n ≡ true) × (has_slash n ≡ false)
authority_is_cut n ([], some, are, joined) = absurd (omega (arith, some))
authority_is_cut n (s ∷ ss, some, are, joined) =
    rw joined (rw (segments_again s ss are) (nonempty (s ∷ ss) are), slashless (s ∷ ss) are)

-- a text with segments at its dots and without a slash is a naming authority
pub cut_is_authority : (n : List ℕ) → has_segments n ≡ true → has_slash n ≡ false → IsNamingAuthority n
cut_is_authority n cut whole = (
  slice_split is_dot n,
  rw (length-slice_split is_dot n) (omega arith),
  segments_from (slice_split is_dot n) cut (piece_dotless is_dot n) (piece_of is_dot is_slash n whole),
  sym (join_with_byte-slice_split 46 n),
)

-- what `position` tells of the first slash
pub slash_shown : (h : List ℕ) (found : Option ℕ) → found ≡ position is_slash h →
    IfNone found (has_slash h ≡ false) × OnSome found (has_slash h ≡ true)
    × IfSome found (λ slash. (slash < length h) × (slash ≡ position_or_len is_slash h))
slash_shown h None e = (no_place is_slash h e, tt, tt)
slash_shown h (Some i) e = let place = slash_found h i e in (tt, place.0, (place.2, place.3))
