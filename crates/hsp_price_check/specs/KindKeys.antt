-- Keys, without where they lie in memory.
use Rattle.hsp_price_check.specs.Keys.{KeyEntry}
use Rattle.hsp_price_check.specs.declared.keys.KindKey.{KindKey}

abbrev pub key_in : KindKey → KeyEntry
key_in key = record { region = key.region.items; places = key.places.items }
