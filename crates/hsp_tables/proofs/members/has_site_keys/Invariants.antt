use Rattle.std.proofs.Common.{◌≡◌, map, string_bytes}
use Rattle.std.specs.List.{list_all}
use Rattle.toml.specs.View.{table_view}
use Rattle.hsp_tables.specs.Settings.{is_site_key, keys_in}
use Rattle.hsp_tables.proofs.members.has_site_keys.Given as goal

abbrev pub invariant-loop-key : goal.invariant-loop-key
invariant-loop-key l =
    list_all is_site_key (map (λ k. string_bytes k) l.key-iterator)
    ≡ list_all is_site_key (keys_in (table_view l.table))
