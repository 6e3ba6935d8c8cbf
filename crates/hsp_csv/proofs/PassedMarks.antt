-- A byte order mark that is looked for octet by octet.
use Rattle.std.proofs.Common.{◌≡◌, ◌≢◌, ℕ, List, [], ◌∷◌, ◌++◌, length, Option, Some, None, false}
use Rattle.std.proofs.Common.{refl, sym, ap, ◌∙◌, arith, inl, inr}
use Rattle.std.proofs.lemmas.Bool.Decides.{nat_tests}
use Rattle.std.specs.Io.KnownBytes.{Keeps, prepend_known}
use Rattle.csv.specs.Reading.{is_bom, strip_bom}
use Rattle.hsp_csv.specs.Walks.{Looks, PassesMark}

-- another octet than the mark's
no_mark : (a b c : ℕ) (rest : List ℕ) → is_bom a b c ≡ false → strip_bom (a ∷ b ∷ c ∷ rest) ≡ a ∷ b ∷ c ∷ rest
unfolding strip_bom
no_mark a b c rest other = rw other refl

-- a text with another first octet has no mark
other_first : (a : ℕ) (rest : List ℕ) → a ≢ 0xEF → strip_bom (a ∷ rest) ≡ a ∷ rest
unfolding strip_bom
other_first a [] other = refl
other_first a (b ∷ []) other = refl
other_first a (b ∷ c ∷ rest) other = no_mark a b c rest (grind (arith, nat_tests))

-- nor has one with another second octet
other_second : (a b : ℕ) (rest : List ℕ) → b ≢ 0xBB → strip_bom (a ∷ b ∷ rest) ≡ a ∷ b ∷ rest
unfolding strip_bom
other_second a b [] other = refl
other_second a b (c ∷ rest) other = no_mark a b c rest (grind (arith, nat_tests))

-- nor has one with another third octet
other_third : (a b c : ℕ) (rest : List ℕ) → c ≢ 0xBF → strip_bom (a ∷ b ∷ c ∷ rest) ≡ a ∷ b ∷ c ∷ rest
other_third a b c rest other = no_mark a b c rest (grind (arith, nat_tests))

-- octets that were looked at are kept
pub keeps_on : (one two three : Option (List ℕ)) → Keeps one two → Keeps two three → Keeps one three
keeps_on None two three a b = tt
keeps_on (Some xs) None three a b = absurd a
keeps_on (Some xs) (Some ys) None a b = absurd b
keeps_on (Some xs) (Some ys) (Some zs) a b = b ∙ a

-- the octets that are left have no mark
abbrev IsUnmarked : List ℕ → Option (List ℕ) → Type 0
IsUnmarked ahead rest = (octets : List ℕ) → rest ≡ Some octets → strip_bom (ahead ++ octets) ≡ ahead ++ octets

-- octets without a mark are passed over by none
unmarked : (text rest : Option (List ℕ)) (ahead : List ℕ) → Keeps text (prepend_known ahead rest)
    → IsUnmarked ahead rest → PassesMark text (prepend_known ahead rest) 0
unmarked None rest ahead keeps is = tt
unmarked (Some text) None ahead keeps is = absurd keeps
unmarked (Some text) (Some octets) ahead keeps is =
    let same = is octets refl in
    let whole : strip_bom text ≡ text = rw (← keeps) same in
    (keeps ∙ sym whole, omega (arith, ap (length {A = ℕ}) whole))

-- what is there is one
some_is : {A : Type 0} (x y : A) → Some x ≡ Some y → x ≡ y
some_is x y e = cc

-- the first octet isn't the mark's, or there is none
pub stops_first : (text rest : Option (List ℕ)) (none ahead : List ℕ) → none ≡ []
    → Keeps text (prepend_known ahead rest)
    → Looks 0xEF none ahead rest false → PassesMark text (prepend_known ahead rest) 0
unfolding strip_bom
stops_first text rest none ahead empty keeps (inl (octet, other, is)) =
    unmarked text rest ahead keeps (λ octets e. rw (is, empty) (other_first octet octets other))
stops_first text rest none ahead empty keeps (inr (is, ended)) =
    unmarked text rest ahead keeps (λ octets e. rw (is, empty, some_is octets [] (sym e ∙ ended)) refl)

-- the second one isn't
pub stops_second : (text rest : Option (List ℕ)) (first ahead : List ℕ) → first ≡ 0xEF ∷ []
    → Keeps text (prepend_known ahead rest)
    → Looks 0xBB first ahead rest false → PassesMark text (prepend_known ahead rest) 0
unfolding strip_bom
stops_second text rest first ahead begun keeps (inl (octet, other, is)) =
    unmarked text rest ahead keeps (λ octets e. rw (is, begun) (other_second 0xEF octet octets other))
stops_second text rest first ahead begun keeps (inr (is, ended)) =
    unmarked text rest ahead keeps (λ octets e. rw (is, begun, some_is octets [] (sym e ∙ ended)) refl)

-- the third one isn't
pub stops_third : (text rest : Option (List ℕ)) (first ahead : List ℕ) → first ≡ 0xEF ∷ 0xBB ∷ []
    → Keeps text (prepend_known ahead rest)
    → Looks 0xBF first ahead rest false → PassesMark text (prepend_known ahead rest) 0
unfolding strip_bom
stops_third text rest first ahead begun keeps (inl (octet, other, is)) =
    unmarked text rest ahead keeps (λ octets e. rw (is, begun) (other_third 0xEF 0xBB octet octets other))
stops_third text rest first ahead begun keeps (inr (is, ended)) =
    unmarked text rest ahead keeps (λ octets e. rw (is, begun, some_is octets [] (sym e ∙ ended)) refl)

-- all three are
pub passes : (text rest : Option (List ℕ)) (ahead none : List ℕ) → ahead ≡ 0xEF ∷ 0xBB ∷ 0xBF ∷ [] → none ≡ []
    → Keeps text (prepend_known ahead rest) → PassesMark text (prepend_known none rest) 3
unfolding strip_bom
passes None rest ahead none is empty keeps = tt
passes (Some text) None ahead none is empty keeps = absurd keeps
passes (Some text) (Some octets) ahead none is empty keeps =
    let whole : text ≡ 0xEF ∷ 0xBB ∷ 0xBF ∷ octets = sym keeps ∙ rw is refl in
    rw (whole, empty) (refl, omega arith)
