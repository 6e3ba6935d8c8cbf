-- The settings of the page are those that are read: keys, hosts and arrays.
use Rattle.std.proofs.Common.{◌≡◌, ◌∙◌, ◌+◌, ℕ, Bool, List, [], ◌∷◌, Result, Ok, codes, map, ap, sym, arith}
use Rattle.std.specs.List.{list_all, list_any}
use Rattle.std.specs.Str.{bytes_eq}
use Rattle.toml.specs.Data as toml
use Rattle.toml.specs.Data.{Data, Items, Members}
use Rattle.hsp_tables.specs.InTurn.{SpellInTurn}
use Rattle.hsp_tables.specs.Settings.{HostEntry, elements_in, host_at, is_host_key, is_root_key, is_site_key, keys_in}
use Rattle.hsp_tables.specs.declared.fault.TableFault.{TableFault}
use Rattle.hsp_tables.proofs.SettingsLists as lists
use Rattle.hsp_instance.specs.Building.{host_of_entry}
use Rattle.hsp_inputs.specs.Stated.{EachStates, StatesHost}

-- ---- keys

-- tests that agree on each key agree on all
same_tests : (f g : List ℕ → Bool) → ((key : List ℕ) → f key ≡ g key) → (keys : List (List ℕ))
    → list_all f keys ≡ list_all g keys
same_tests f g same keys = ap (λ test. list_all test keys) (λ i key. same key i)

-- the keys of a site are those of the page
pub site_keys : (members : Members)
    → list_all (λ key. list_any (bytes_eq key) (codes "name" ∷ codes "record" ∷ codes "index" ∷ [])) (keys_in members)
    ≡ list_all is_site_key (keys_in members)
site_keys members = same_tests _ is_site_key (λ key. grind arith) (keys_in members)

-- the keys of a host are those of the page
host_keys : (members : Members)
    → list_all (λ key. list_any (bytes_eq key) (codes "address" ∷ codes "limit" ∷ [])) (keys_in members)
    ≡ list_all is_host_key (keys_in members)
host_keys members = same_tests _ is_host_key (λ key. grind arith) (keys_in members)

-- the keys of a document are those of the page
pub root_keys : (members : Members)
    → list_all (λ key. list_any (bytes_eq key) (codes "site" ∷ codes "host" ∷ [])) (keys_in members)
    ≡ list_all is_root_key (keys_in members)
root_keys members = same_tests _ is_root_key (λ key. grind arith) (keys_in members)

-- ---- hosts

-- a host that was read is stated by its table
pub host_is : (n : ℕ) (value : Data) (host : HostEntry) → host_at n value ≡ Ok host
    → (members : Members) × (value ≡ toml.table members) × StatesHost members (host_of_entry host)
host_is n value host e =
    let (ms, is, tells) = lists.host_is n value host e in (
      ms,
      is,
      record {
        keys = host_keys ms ∙ tells.keys;
        digits = tells.digits;
        address = tells.address;
        decoded = tells.decoded;
        limit = tells.limit;
        limited = tells.limited;
      },
    )

-- a host that is stated is read
pub host_is_read : (n : ℕ) (members : Members) (host : HostEntry) → StatesHost members (host_of_entry host)
    → host_at n (toml.table members) ≡ Ok host
host_is_read n ms host tells = lists.host_is_read n ms host
    (record {
      keys = sym (host_keys ms) ∙ tells.keys;
      digits = tells.digits;
      address = tells.address;
      decoded = tells.decoded;
      limit = tells.limit;
      limited = tells.limited;
    })

-- ---- arrays

module _ {Row Own : Type 0} (row_in : ℕ → Data → Result Row TableFault) (own : Row → Own)
    (States : Members → Own → Type 0) where
  -- rows that elements spell are stated by their tables, one by one
  pub told : ((n : ℕ) (value : Data) (row : Row) → row_in n value ≡ Ok row
      → (members : Members) × (value ≡ toml.table members) × States members (own row))
      → (n : ℕ) (items : Items) (rows : List Row) → SpellInTurn row_in n (elements_in items) rows
      → EachStates States items (map own rows)
  told is n toml.no_items [] spelled = tt
  told is n toml.no_items (row ∷ rows) spelled = absurd spelled
  told is n (toml.item value items) [] spelled = absurd spelled
  told is n (toml.item value items) (row ∷ rows) spelled =
      let one = is n value row spelled.0 in
      (one.0, one.1, one.2, told is (n + 1) items rows spelled.1)

  -- rows that tables state are spelled by the elements
  pub spelled : ((n : ℕ) (members : Members) (row : Row) → States members (own row)
      → row_in n (toml.table members) ≡ Ok row)
      → (n : ℕ) (items : Items) (rows : List Row) → EachStates States items (map own rows)
      → SpellInTurn row_in n (elements_in items) rows
  spelled reads n toml.no_items [] tell = tt
  spelled reads n toml.no_items (row ∷ rows) tell = absurd tell
  spelled reads n (toml.item value items) [] tell = absurd tell
  spelled reads n (toml.item value items) (row ∷ rows) tell =
      (rw tell.1 (reads n tell.0 row tell.2), spelled reads (n + 1) items rows tell.3)
