-- The names of the regions that a map holds.
use Rattle.std.proofs.Common.{◌≡◌, ◌<◌, ℕ, Bool, true, List, [], ◌∷◌, Some, Vec, Global, is_some, length, refl}
use Rattle.std.proofs.Common.{ap, sym, ◌∙◌, arith}
use Rattle.std.proofs.lemmas.Map.Made.{is_some-lookup}
use Rattle.std.specs.Cmp.Lexicographic.{bytes_decides}
use Rattle.std.specs.List.{list_any, position, position_or_len, slice_get}
use Rattle.std.specs.Map.{keys_of, lookup}
use Rattle.std.specs.Str.{bytes_eq}
use Rattle.indexmap.specs.IndexMap.{insert_entry}
use Rattle.hsp_tables.specs.KeyedRows.{names_in}
use Rattle.hsp_tables.proofs.SeenNames.{seen_before}
use Rattle.hsp_instance.specs.RowArcs.{names_of, with_region}

-- whether a key is the name
abbrev pub is_name : List ℕ → Vec ℕ Global → Bool
is_name name key = bytes_eq name key.items

abbrev pub same : Vec ℕ Global → Vec ℕ Global → Bool
same a b = bytes_eq a.items b.items

module _ {V : Type 0} where
  -- the names of the map are its keys
  pub names_are : (es : List (Vec ℕ Global × V)) → names_of es ≡ names_in (keys_of es)
  names_are [] = refl
  names_are (e ∷ es) = ap (λ t. e.0.items ∷ t) (names_are es)

  -- a name is in the map just where it is a key
  among_names : (name : List ℕ) (es : List (Vec ℕ Global × V))
      → list_any (is_name name) (keys_of es) ≡ list_any (bytes_eq name) (names_of es)
  among_names name [] = refl
  among_names name (e ∷ es) = rw (among_names name es) refl

  -- a region is in the map where its name is among the names
  pub is_known : (name : List ℕ) (es : List (Vec ℕ Global × V))
      → is_some (lookup (is_name name) es) ≡ list_any (bytes_eq name) (names_of es)
  is_known name es = is_some-lookup (is_name name) es ∙ among_names name es

  -- a region that is there changes no names
  pub known_before : (name : List ℕ) (es : List (Vec ℕ Global × V)) → is_some (lookup (is_name name) es) ≡ true
      → names_of es ≡ with_region (names_of es) name
  known_before name es there =
      rw (names_are es) (seen_before name (keys_of es) (sym (is_some-lookup (is_name name) es) ∙ there))

  -- what stands at the place of a name has that name
  stands : (name : List ℕ) (es : List (Vec ℕ Global × V)) → position_or_len (is_name name) (keys_of es) < length es
      → slice_get (names_of es) (position_or_len (is_name name) (keys_of es)) ≡ Some name
  stands name [] less = absurd (omega arith)
  stands name (e ∷ es) less = grind (arith, stands name es, bytes_decides name e.0.items)

  -- the place of a region has its name
  pub known_place : (name : List ℕ) (es : List (Vec ℕ Global × V)) (i : ℕ) → i < length es
      → position (is_name name) (keys_of es) ≡ Some i → slice_get (names_of es) i ≡ Some name
  known_place name es i less at = grind (arith, stands name es)

  -- a region that is put in adds its name
  pub names_added : (key : Vec ℕ Global) (value : V) (es : List (Vec ℕ Global × V))
      → names_of (insert_entry same es key value) ≡ with_region (names_of es) key.items
  names_added key value [] = refl
  names_added key value (e ∷ es) = grind (arith, names_added key value es)

  -- which stands at the place that it was given
  pub added_place : (key : Vec ℕ Global) (value : V) (es : List (Vec ℕ Global × V))
      → slice_get (names_of (insert_entry same es key value))
      (position_or_len (λ (k : Vec ℕ Global). bytes_eq key.items k.items) (keys_of es)) ≡ Some key.items
  added_place key value [] = refl
  added_place key value (e ∷ es) = grind (arith, added_place key value es, bytes_decides key.items e.0.items)
