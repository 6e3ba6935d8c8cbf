-- Sites have the names of the settings' sites: names, and no two alike.
use Rattle.std.proofs.Common.{◌≡◌, ℕ, true, false, List, [], ◌∷◌, ◌++◌, zero, suc, Option, Some, None, length}
use Rattle.std.proofs.Common.{option_map, sym, arith}
use Rattle.std.specs.List.{AllByRecursion, IsDistinct, slice_get}
use Rattle.std.specs.Str.{bytes_eq}
use Rattle.hsp_text.specs.Name.{is_name}
use Rattle.hsp_tables.specs.Settings.{IsSiteEntry, SiteEntry, same_name as same_entry_name}
use Rattle.hsp_instance.specs.Instance.{Site, same_name}

-- sites of the names of the first entries
abbrev pub AreNamed : List SiteEntry → List Site → Type 0
AreNamed entries [] = Unit {0}
AreNamed [] (site ∷ sites) = ⊥
AreNamed (entry ∷ entries) (site ∷ sites) = (site.name ≡ entry.name) × AreNamed entries sites

-- one more, of the next name
pub named_push : (entries : List SiteEntry) (sites : List Site) (site : Site) → AreNamed entries sites
    → option_map (λ (e : SiteEntry). e.name) (slice_get entries (length sites)) ≡ Some site.name
    → AreNamed entries (sites ++ site ∷ [])
named_push [] [] site are next = let none : ◌≡◌ {A = Option (List ℕ)} None (Some site.name) = next in cc
named_push (entry ∷ entries) [] site are next = let same : entry.name ≡ site.name = cc (next) in (sym same, tt)
named_push [] (first ∷ sites) site are next = absurd are
named_push (entry ∷ entries) (first ∷ sites) site are next = (are.0, named_push entries sites site are.1 next)

-- the next name is a name
pub next_is_name : (entries : List SiteEntry) (i : ℕ) (name : List ℕ) → AllByRecursion IsSiteEntry entries
    → option_map (λ (e : SiteEntry). e.name) (slice_get entries i) ≡ Some name → is_name name ≡ true
next_is_name [] i name each next = grind arith
next_is_name (entry ∷ entries) zero name each next = grind (arith, each.0.name)
next_is_name (entry ∷ entries) (suc i) name each next = next_is_name entries i name each.1 next

-- a name that no entry has, no site of theirs has
none_of : (name : List ℕ) (entries : List SiteEntry) (sites : List Site) → AreNamed entries sites
    → AllByRecursion (λ (e : SiteEntry). bytes_eq name e.name ≡ false) entries
    → AllByRecursion (λ (s : Site). bytes_eq name s.name ≡ false) sites
none_of name entries [] are other = tt
none_of name [] (site ∷ sites) are other = absurd are
none_of name (entry ∷ entries) (site ∷ sites) are other = (rw are.0 other.0, none_of name entries sites are.1 other.1)

-- the names of the entries are distinct, so those of the sites are
pub names_apart : (entries : List SiteEntry) (sites : List Site) → AreNamed entries sites
    → IsDistinct same_entry_name entries → IsDistinct same_name sites
unfolding IsDistinct
names_apart entries [] are apart = tt
names_apart [] (site ∷ sites) are apart = absurd are
names_apart (entry ∷ entries) (site ∷ sites) are apart =
    (rw are.0 (none_of entry.name entries sites are.1 apart.0), names_apart entries sites are.1 apart.1)
