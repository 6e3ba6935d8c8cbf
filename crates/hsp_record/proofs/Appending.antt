-- Appending fields, one after the other.
use Rattle.std.proofs.Common.{◌≡◌, ℕ, suc, ◌+◌, ◌<◌, ◌%◌, ◌^◌, List, [], ◌∷◌, ◌++◌, length, get_or, drop, sym, ap, ◌∙◌}
use Rattle.std.proofs.Common.{append_assoc, arith, add-one, drop-cons}
use Rattle.std.specs.Int.{w8, w16, w32, w64, to_be_bytes}
use Rattle.std.proofs.lemmas.List.{append-nil}
use Rattle.hsp_record.specs.Fields.{joined, run_fields, all_fields, list_fields}
use Rattle.hsp_record.specs.Site.{Site, attribute_fields, head_fields}
use Rattle.hsp_record.specs.Values.{HandleValue, reference_fields, value_fields}
use Rattle.hsp_record.specs.Reading.{references_in, AreReferences}
use Rattle.hsp_record.proofs.Cuts.{joined-append}

-- the next element of a loop that appends each
pub append_next : {A : Type 0} (fields : A → List (List ℕ)) (xs : List A) (i : ℕ) (x : A) (out total : List ℕ)
    → i < length xs → x ≡ get_or xs i x
    → out ++ joined (all_fields fields (drop i xs)) ≡ total
    → (out ++ joined (fields x)) ++ joined (all_fields fields (drop (i + 1) xs)) ≡ total
append_next {A} fields xs i x out total lt e so_far =
    let rest = drop (i + 1) xs in
    let split : drop i xs ≡ x ∷ rest =
    drop-cons xs i x lt ∙ ap (λ (y : A). y ∷ drop (suc i) xs) (sym e)
    ∙ ap (λ (n : ℕ). x ∷ drop n xs) (sym (add-one i)) in
    append_assoc out (joined (fields x)) (joined (all_fields fields rest))
    ∙ ap (λ (l : List ℕ). out ++ l) (sym (joined-append (fields x) (all_fields fields rest)))
    ∙ ap (λ (ys : List A). out ++ joined (all_fields fields ys)) (sym split)
    ∙ so_far

-- fields after fields
pub append_fields : (out : List ℕ) (fs gs : List (List ℕ)) → (out ++ joined fs) ++ joined gs ≡ out ++ joined (fs ++ gs)
append_fields out fs gs =
    append_assoc out (joined fs) (joined gs) ∙ ap (λ (l : List ℕ). out ++ l) (sym (joined-append fs gs))

-- an octet is spelled by itself
pub octet_itself : (n : ℕ) → n < 2 ^ 8 → to_be_bytes w8 n ≡ n ∷ []
octet_itself n lt = let small : n % 256 ≡ n = omega arith in ap (λ (m : ℕ). m ∷ []) small

-- the fields before the number of servers
pub append_head : (s : Site) (out : List ℕ)
    → ((((((out ++ to_be_bytes w16 s.version) ++ (s.major ∷ s.minor ∷ [])) ++ to_be_bytes w16 s.serial)
    ++ to_be_bytes w8 s.mask) ++ to_be_bytes w8 s.option) ++ joined (run_fields s.filter))
    ++ joined (list_fields attribute_fields s.attributes) ≡ out ++ joined (head_fields s)
append_head s out = simp (append_assoc, append-nil)

-- references, from the octets that spell them
pub append_references : (count : ℕ) (octets out : List ℕ) → AreReferences count octets
    → (out ++ to_be_bytes w32 count) ++ octets ≡ out
    ++ joined (list_fields reference_fields (references_in count octets))
append_references count octets out are =
    append_assoc out (to_be_bytes w32 count) octets
    ∙ ap (λ (n : ℕ). out ++ (to_be_bytes w32 n ++ octets)) (sym are.0)
    ∙ ap (λ (l : List ℕ). out ++ (to_be_bytes w32 (length (references_in count octets)) ++ l)) (sym are.1)

-- a run, and what follows it
run_then : (octets after : List ℕ)
    → joined (run_fields octets) ++ after ≡ to_be_bytes w32 (length octets) ++ (octets ++ after)
run_then octets after =
    append_assoc (to_be_bytes w32 (length octets)) (octets ++ []) after
    ∙ ap (λ (l : List ℕ). to_be_bytes w32 (length octets) ++ (l ++ after)) (append-nil octets)

-- eight fields that are appended one by one stand behind the text
regroup : (out a b c d e f g h : List ℕ)
    → (((((((out ++ a) ++ b) ++ c) ++ d) ++ e) ++ f) ++ g) ++ h ≡ out
    ++ (a ++ (b ++ (c ++ (d ++ (e ++ (f ++ (g ++ h)))))))
regroup out a b c d e f g h = simp append_assoc

-- the fields of a value
pub append_value : (v : HandleValue) (out : List ℕ)
    → (((((((out ++ to_be_bytes w32 v.index) ++ joined (run_fields v.type_octets)) ++ joined (run_fields v.octets))
    ++ to_be_bytes w8 v.permission) ++ to_be_bytes w8 v.ttl_kind) ++ to_be_bytes w32 v.ttl)
    ++ to_be_bytes w64 v.timestamp) ++ joined (list_fields reference_fields v.references) ≡ out
    ++ joined (value_fields v)
append_value v out =
    let index = to_be_bytes w32 v.index in
    let tail =
    to_be_bytes w8 v.permission
    ++ (to_be_bytes w8 v.ttl_kind
    ++ (to_be_bytes w32 v.ttl
    ++ (to_be_bytes w64 v.timestamp ++ joined (list_fields reference_fields v.references)))) in
    regroup out index (joined (run_fields v.type_octets)) (joined (run_fields v.octets)) (to_be_bytes w8 v.permission)
    (to_be_bytes w8 v.ttl_kind) (to_be_bytes w32 v.ttl) (to_be_bytes w64 v.timestamp)
    (joined (list_fields reference_fields v.references))
    ∙ ap (λ (l : List ℕ). out ++ (index ++ l))
    (run_then v.type_octets (joined (run_fields v.octets) ++ tail)
    ∙ ap (λ (l : List ℕ). to_be_bytes w32 (length v.type_octets) ++ (v.type_octets ++ l)) (run_then v.octets tail))
