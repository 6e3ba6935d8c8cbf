-- TOML documents and the keys of their tables.
use Rattle.std.proofs.Common.{◌≡◌, ℕ, List, [], ◌∷◌, map, String, Global, None, Some, Ok, Err, IsUtf8, string_bytes}
use Rattle.std.proofs.Common.{refl, ap, arith}
use Rattle.std.proofs.lemmas.Str.{IsUtf8-from_is_utf8, is_utf8-from_IsUtf8}
use Rattle.std.specs.Map.{keys_of}
use Rattle.toml.specs.Data.{Members}
use Rattle.toml.specs.Parse.{parse_document}
use Rattle.toml.specs.View.{members_view}
use Rattle.toml.specs.declared.value.Value.{Value}
use Rattle.hsp_tables.specs.declared.fault.TableFault.TheVariants.{NotToml}
use Rattle.hsp_tables.specs.Settings.{document_in, keys_in}

-- the keys of a table, as those of the map that holds it
pub keys_of_table : (entries : List (String Global × Value))
    → keys_in (members_view entries) ≡ map (λ k. string_bytes k) (keys_of entries)
keys_of_table [] = refl
keys_of_table (entry ∷ entries) = ap (λ keys. string_bytes entry.0 ∷ keys) (keys_of_table entries)

-- octets that are UTF-8 and that the crate reads are a document
pub document_is : (octets : List ℕ) (document : Members) → IsUtf8 octets → parse_document octets ≡ Some document
    → document_in octets ≡ Ok document
unfolding document_in
document_is octets document text e = rw (is_utf8-from_IsUtf8 octets text, e) refl

-- octets that are not UTF-8, or that the crate does not read, are none
pub document_is_none : (octets : List ℕ) → (IsUtf8 octets → parse_document octets ≡ None)
    → document_in octets ≡ Err NotToml
unfolding document_in
document_is_none octets h = grind (arith, IsUtf8-from_is_utf8 octets)
