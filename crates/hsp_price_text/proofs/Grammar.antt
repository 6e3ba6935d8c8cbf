-- The lines of a certificate, and what a draft takes.
use Rattle.std.proofs.Common.{◌≡◌, ◌<◌, ◌≤◌, ℕ, Bool, true, false, List, [], ◌∷◌, ◌++◌, length, Option}
use Rattle.std.proofs.Common.{Some, None, decimal, refl, ap, ◌∙◌, arith}
use Rattle.std.specs.Prelude.{◌==◌, codes, if◌then◌else◌, nat_le, nat_lt}
use Rattle.std.specs.List.{AllByRecursion, list_all}
use Rattle.std.specs.Str.{bytes_eq}
use Rattle.std.proofs.lemmas.Bool.{and_parts, and_from, eqb-true}
use Rattle.std.proofs.lemmas.Bool.Decides.{nat_tests}
use Rattle.std.proofs.lemmas.Slice.Eq.{bytes_eq-Decides}
use Rattle.hsp_text.proofs.Lists.{all_append}
use Rattle.hsp_text.specs.Name.{is_name, is_name_octet}
use Rattle.hsp_cert.specs.Lexing.{cut}
use Rattle.hsp_cert.proofs.LineCuts.{Unbroken}
use Rattle.hsp_cert.proofs.SpelledNumbers.{decimal_unbroken}
use Rattle.hsp_cert.proofs.SpacedText.{NoSpace, cut_rejoined, cut_spaced, rejoined}
use Rattle.hsp_price_text.specs.Claim.{Class, are_servers, is_amount, is_class, is_server}
use Rattle.hsp_price_text.specs.Lines.{class_from, class_in, class_left, numbers_behind, numbers_in, numbers_left}
use Rattle.hsp_price_text.specs.Lines.{only_one, only_two, turns_in, turns_of}
use Rattle.hsp_price_text.specs.Text.{class_line, in_turn, numbered, spaced}
use Rattle.hsp_price_text.proofs.Parts.{Fits, behind_back, behind_named, text_named, turns_back, turns_named}
use Rattle.hsp_price_text.proofs.Parts.{numbers_back}

-- ---- lines without a line feed

-- what a test shows of each octet
apart_by : (c : ℕ) (xs : List ℕ) → list_all (λ x. nat_lt c x) xs ≡ true → AllByRecursion (λ x. x ≡ c → ⊥) xs
apart_by c [] h = tt
apart_by c (x ∷ xs) h =
    let p = and_parts (nat_lt c x) (list_all (λ x. nat_lt c x) xs) h in
    let more : c < x = let t = p.0 in grind (arith, nat_tests) in
    ((λ e. omega arith), apart_by c xs p.1)

-- octets above 10 are no line feed
pub unbroken_by : (xs : List ℕ) → list_all (λ x. nat_lt 10 x) xs ≡ true → Unbroken xs
unbroken_by xs h = apart_by 10 xs h

-- numbers with a space before each have none
spaced_unbroken : (ns : List ℕ) → AllByRecursion Fits ns → Unbroken (spaced ns)
spaced_unbroken [] h = tt
spaced_unbroken (n ∷ ns) h = (
  (λ e. omega (arith, e)),
  all_append (λ x. x ≡ 10 → ⊥) (decimal n) (spaced ns)
      (decimal_unbroken n h.0) (spaced_unbroken ns h.1),
)

-- nor has a word with numbers
pub numbered_unbroken : (word ns : List ℕ) → Unbroken word → AllByRecursion Fits ns → Unbroken (numbered word ns)
numbered_unbroken word ns h hs = all_append (λ x. x ≡ 10 → ⊥) word (spaced ns) h (spaced_unbroken ns hs)

-- an octet of a name is a hyphen or above it
name_octets : (xs : List ℕ) → list_all is_name_octet xs ≡ true → list_all (λ x. nat_lt 32 x) xs ≡ true
name_octets [] h = refl
name_octets (x ∷ xs) h =
    let p = and_parts (is_name_octet x) (list_all is_name_octet xs) h in
    let more : nat_lt 32 x ≡ true = let t = p.0 in grind (arith, nat_tests) in
    and_from (nat_lt 32 x) (list_all (λ x. nat_lt 32 x) xs) more (name_octets xs p.1)

-- the octets of a region's name
name_parts : (region : List ℕ) → is_name region ≡ true → list_all is_name_octet region ≡ true
name_parts region h = grind (arith, h)

-- a greater bound is a smaller one
weaker : (xs : List ℕ) → list_all (λ x. nat_lt 32 x) xs ≡ true → list_all (λ x. nat_lt 10 x) xs ≡ true
weaker [] h = refl
weaker (x ∷ xs) h =
    let p = and_parts (nat_lt 32 x) (list_all (λ x. nat_lt 32 x) xs) h in
    let more : nat_lt 10 x ≡ true = let t = p.0 in grind (arith, nat_tests) in
    and_from (nat_lt 10 x) (list_all (λ x. nat_lt 10 x) xs) more (weaker xs p.1)

-- a name has no space
name_spaceless : (region : List ℕ) → is_name region ≡ true → NoSpace region
name_spaceless region h = apart_by 32 region (name_octets region (name_parts region h))

-- nor has it a line feed
name_unbroken : (region : List ℕ) → is_name region ≡ true → Unbroken region
name_unbroken region h = unbroken_by region (weaker region (name_octets region (name_parts region h)))

-- ---- classes

-- what a class has
record ClassParts (c : Class) : Type 0 where
  named : is_name c.region ≡ true
  several : 2 ≤ length c.servers
  within : list_all is_server c.servers ≡ true
  long : length c.amounts ≡ length c.servers
  amounts : list_all is_amount c.amounts ≡ true

-- a class within the orders and ranges has them
class_parts : (c : Class) → is_class c ≡ true → ClassParts c
class_parts c h =
    let a = and_parts (is_name c.region) _ h in
    let b = and_parts (nat_le 2 (length c.servers)) _ a.1 in
    let d = and_parts (are_servers c.servers) _ b.1 in
    let e = and_parts (length c.amounts == length c.servers) _ d.1 in
    let f = and_parts (list_all is_server c.servers) _ d.0 in
    record {
      named = a.0;
      several = let t = b.0 in grind (arith, nat_tests);
      within = f.0;
      long = eqb-true (length c.amounts) (length c.servers) e.0;
      amounts = e.1;
    }

-- the numbers of a class fit in 64 bits
turns_fit : (servers amounts : List ℕ) → list_all is_server servers ≡ true → list_all is_amount amounts ≡ true
    → AllByRecursion Fits (in_turn servers amounts)
turns_fit [] amounts h g = tt
turns_fit (a ∷ servers) [] h g = tt
turns_fit (a ∷ servers) (b ∷ amounts) h g =
    let p = and_parts (is_server a) (list_all is_server servers) h in
    let q = and_parts (is_amount b) (list_all is_amount amounts) g in
    let small : a ≤ 1023 = let t = p.0 in grind (arith, nat_tests) in
    let few : b ≤ 1000000000000 = let t = q.0 in grind (arith, nat_tests) in
    (omega arith, (omega arith, turns_fit servers amounts p.1 q.1))

-- the line of a class has no line feed
pub class_unbroken : (c : Class) → is_class c ≡ true → Unbroken (class_line c)
class_unbroken c h =
    let p = class_parts c h in
    all_append (λ x. x ≡ 10 → ⊥) (codes "class") (32 ∷ numbered c.region (in_turn c.servers c.amounts))
    (unbroken_by (codes "class") refl) (
      (λ e. omega (arith, e)),
      numbered_unbroken c.region (in_turn c.servers c.amounts) (name_unbroken c.region p.named)
          (turns_fit c.servers c.amounts p.within p.amounts),
    )

-- numbers that are there are read back, behind a space
left_back : (region : List ℕ) (ns : List ℕ) → NoSpace region → 0 < length ns → AllByRecursion Fits ns
    → class_left (Some (numbered region ns)) ≡ class_from region (turns_of ns)
left_back region [] apart l h = absurd (omega arith)
left_back region (n ∷ ns) apart l h =
    rw (cut_spaced region (decimal n ++ spaced ns) apart, numbers_back n ns h.0 h.1) refl

-- servers and amounts are some numbers
some_turns : (servers amounts : List ℕ) → 2 ≤ length servers → length amounts ≡ length servers
    → 0 < length (in_turn servers amounts)
some_turns [] amounts l e = absurd (omega arith)
some_turns (a ∷ servers) [] l e = absurd (omega (arith, e))
some_turns (a ∷ servers) (b ∷ amounts) l e = omega arith

-- a class is read back from its line
pub class_back : (c : Class) → is_class c ≡ true → class_in (class_line c) ≡ Some c
class_back c h =
    let p = class_parts c h in
    let turns = in_turn c.servers c.amounts in
    left_back c.region turns (name_spaceless c.region p.named) (some_turns c.servers c.amounts p.several p.long)
    (turns_fit c.servers c.amounts p.within p.amounts)
    ∙ ap (class_from c.region) (turns_back c.servers c.amounts p.long p.within)

-- and the class that is read of a line is spelled by it
pub class_named : (line : List ℕ) (c : Class) → class_in line ≡ Some c → line ≡ class_line c
class_named line c h = by (bytes_eq (cut line).0 (codes "class")) refl (cut line).1 refl h
  where
    from : (region : List ℕ) (more : Option (List ℕ)) → class_from region (turns_in (numbers_left more)) ≡ Some c
        → rejoined region more ≡ numbered c.region (in_turn c.servers c.amounts)
    from region None e = absurd cc
    from region (Some more) e = read (numbers_in more) (λ ns f. text_named more ns f) e
      where
        turned : (ns : List ℕ) (t : Option (List ℕ × List ℕ)) → turns_of ns ≡ t → class_from region t ≡ Some c
            → region ++ spaced ns ≡ numbered c.region (in_turn c.servers c.amounts)
        turned ns None f g = absurd cc
        turned ns (Some t) f g =
            let all : record { region = region; servers = t.0; amounts = t.1 } ≡ c = cc in
            ap (λ (l : List ℕ). region ++ spaced l) (turns_named ns t f)
            ∙ ap (λ (d : Class). numbered d.region (in_turn d.servers d.amounts)) all

        read : (o : Option (List ℕ)) → ((ns : List ℕ) → o ≡ Some ns → 32 ∷ more ≡ spaced ns)
            → class_from region (turns_in o) ≡ Some c
            → region ++ 32 ∷ more ≡ numbered c.region (in_turn c.servers c.amounts)
        read None f g = absurd cc
        read (Some ns) f g =
            ap (λ (l : List ℕ). region ++ l) (f ns refl) ∙ turned ns (turns_of ns) refl g

    left : (rest : Option (List ℕ)) → class_left rest ≡ Some c → rejoined (codes "class") rest ≡ class_line c
    left None e = absurd cc
    left (Some rest) e =
        ap (λ (l : List ℕ). codes "class" ++ 32 ∷ l) (cut_rejoined rest ∙ from (cut rest).0 (cut rest).1 e)

    by : (t : Bool) → bytes_eq (cut line).0 (codes "class") ≡ t → (rest : Option (List ℕ)) → (cut line).1 ≡ rest
        → (if t then class_left rest else None) ≡ Some c → line ≡ class_line c
    by false e rest f g = absurd cc
    by true e rest f g =
        cut_rejoined line ∙ ap (rejoined (cut line).0) f
        ∙ ap (λ (w : List ℕ). rejoined w rest) ((bytes_eq-Decides (cut line).0 (codes "class")).0 e)
        ∙ left rest g

-- ---- numbers behind words

-- one number behind a word is read back
pub one_back : (word : List ℕ) (a : ℕ) → NoSpace word → Fits a
    → only_one (numbers_behind word (numbered word (a ∷ []))) ≡ Some a
one_back word a apart h = rw (behind_back word a [] apart h tt) refl

-- and two are
pub two_back : (word : List ℕ) (a b : ℕ) → NoSpace word → Fits a → Fits b
    → only_two (numbers_behind word (numbered word (a ∷ b ∷ []))) ≡ Some (a, b)
two_back word a b apart h g = rw (behind_back word a (b ∷ []) apart h (g, tt)) refl

-- one number that is read is spelled so
pub one_named : (word line : List ℕ) (a : ℕ) → only_one (numbers_behind word line) ≡ Some a
    → line ≡ numbered word (a ∷ [])
one_named word line a h = by (numbers_behind word line) (λ ns e. behind_named word line ns e) h
  where
    by : (o : Option (List ℕ)) → ((ns : List ℕ) → o ≡ Some ns → line ≡ numbered word ns) → only_one o ≡ Some a
        → line ≡ numbered word (a ∷ [])
    by None e f = absurd cc
    by (Some []) e f = absurd cc
    by (Some (b ∷ [])) e f = let same : b ≡ a = cc in e (b ∷ []) refl ∙ ap (λ n. numbered word (n ∷ [])) same
    by (Some (b ∷ c ∷ ns)) e f = absurd cc

-- and two are
pub two_named : (word line : List ℕ) (a : ℕ × ℕ) → only_two (numbers_behind word line) ≡ Some a
    → line ≡ numbered word (a.0 ∷ a.1 ∷ [])
two_named word line a h = by (numbers_behind word line) (λ ns e. behind_named word line ns e) h
  where
    by : (o : Option (List ℕ)) → ((ns : List ℕ) → o ≡ Some ns → line ≡ numbered word ns) → only_two o ≡ Some a
        → line ≡ numbered word (a.0 ∷ a.1 ∷ [])
    by None e f = absurd cc
    by (Some []) e f = absurd cc
    by (Some (b ∷ [])) e f = absurd cc
    by (Some (b ∷ c ∷ [])) e f =
        let same : (b, c) ≡ a = cc in
        e (b ∷ c ∷ []) refl ∙ ap (λ (n : ℕ × ℕ). numbered word (n.0 ∷ n.1 ∷ [])) same
    by (Some (b ∷ c ∷ d ∷ ns)) e f = absurd cc

-- a word of letters has no space
pub letters : (word : List ℕ) → list_all (λ x. nat_lt 32 x) word ≡ true → NoSpace word
letters word h = apart_by 32 word h
