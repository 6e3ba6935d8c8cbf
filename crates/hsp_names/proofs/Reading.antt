-- The reading of a handle against its definition.
use Rattle.std.proofs.Common.{◌≡◌, ◌≤◌, ◌∙◌, ◌∷◌, ℕ, true, false, List, length, Ok, sym, refl, arith}
use Rattle.std.specs.Str.{is_utf8}
use Rattle.std.proofs.lemmas.Str.{IsUtf8-from_is_utf8, is_utf8-from_IsUtf8}
use Rattle.std.proofs.lemmas.Bool.Decides.{nat_tests}
use Rattle.std.proofs.lemmas.Bool.{le-ltb, or_right, both_ways}
use Rattle.std.proofs.lemmas.List.Folds.{list_any-append}
use Rattle.hsp_names.specs.Handle.{is_slash, has_slash, has_segments, naming_authority, local_name, handle_in}
use Rattle.hsp_names.specs.Handle.{is_handle, IsHandle, PartsAreUnique, ReadingsAreHandles}
use Rattle.hsp_text.proofs.Cuts.{cut_parts}
use Rattle.hsp_names.proofs.Splitting.{slash_parts, authority_is_cut, cut_is_authority}

-- a handle, where each test has passed
pub is_one : (h : List ℕ) → is_handle h ≡ true → IsHandle h (naming_authority h) (local_name h)
is_one h e =
    let tests : (length h ≤ 4096) × (is_utf8 h ≡ true) × (has_slash h ≡ true)
    × (has_segments (naming_authority h) ≡ true) = grind (arith, nat_tests) in
    let parts = slash_parts h tests.2 in
    record {
      short = tests.0;
      text = IsUtf8-from_is_utf8 h tests.1;
      parts = parts.0;
      authority = cut_is_authority (naming_authority h) tests.3 parts.1;
    }

-- the parts of a handle are those before and after its first slash
parts_of : (h n l : List ℕ) → IsHandle h n l → (naming_authority h ≡ n) × (local_name h ≡ l)
parts_of h n l one =
    let cut = authority_is_cut n one.authority in
    rw one.parts (cut_parts is_slash n 47 l cut.1 refl)

-- a handle has its parts in one way
pub parts_are_unique : PartsAreUnique
parts_are_unique h n l n' l' one other =
    let p = parts_of h n l one in
    let q = parts_of h n' l' other in
    (sym p.0 ∙ q.0, sym p.1 ∙ q.1)

-- no handle has an empty segment
pub none_without : (h : List ℕ) → has_segments (naming_authority h) ≡ false → (n l : List ℕ) → IsHandle h n l → ⊥
none_without h empty n l one =
    let cut = authority_is_cut n one.authority in
    let parts = parts_of h n l one in
    both_ways (has_segments n) (rw parts.0 at empty) cut.0

-- what is read has passed each test
pub reads : (h : List ℕ) → handle_in h ≡ Ok h → is_handle h ≡ true
reads h e = grind (arith, nat_tests)

-- what is read has a slash
pub read_has_slash : (h : List ℕ) → handle_in h ≡ Ok h → has_slash h ≡ true
read_has_slash h e = grind (arith, nat_tests)

-- each test passes for a handle
passes : (h n l : List ℕ) → IsHandle h n l → handle_in h ≡ Ok h
passes h n l one =
    let cut = authority_is_cut n one.authority in
    let parts = parts_of h n l one in
    let some : has_slash h ≡ true =
    rw (one.parts, list_any-append is_slash n (47 ∷ l)) (or_right (has_slash n) true refl) in
    rw (le-ltb 4096 (length h) one.short, is_utf8-from_IsUtf8 h one.text, some, parts.0, cut.0) refl

-- octets that are read as a handle are a handle, and no others are
pub readings_are_handles : ReadingsAreHandles
readings_are_handles h n l = (
  λ one. let parts = parts_of h n l one in (passes h n l one, sym parts.0, sym parts.1),
  λ (read, front, back). rw (front, back) (is_one h (reads h read)),
)
