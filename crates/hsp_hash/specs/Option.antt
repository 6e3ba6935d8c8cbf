-- Hash options by their octets (RFC 3651, section 3.2.2).
use Rattle.std.specs.Prelude.{ℕ, ◌==◌, Option, Some, None, if◌then◌else◌}
use Rattle.hsp_hash.specs.declared.option.HashOption.{HashOption}
use Rattle.hsp_hash.specs.declared.option.HashOption.TheVariants.{ByNa, ByLocal, ByHandle}

abbrev pub option_of : ℕ → Option HashOption
option_of octet =
    if octet == 0 then Some ByNa else if octet == 1 then Some ByLocal else if octet == 2 then Some ByHandle else None
