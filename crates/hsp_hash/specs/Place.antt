-- The responsible server of a handle within a site (RFC 3652, section 3.1.3).
use Rattle.std.specs.Prelude.{ℕ, ◌-◌, ◌%◌, ◌^◌, nat_lt, List, drop, map, if◌then◌else◌}
use Rattle.std.specs.Char.{to_ascii_uppercase}
use Rattle.byteorder.specs.Endian.{big_number}
use Rattle.md5.specs.Md5.{md5}
use Rattle.hsp_names.specs.Handle.{naming_authority, local_name}
use Rattle.hsp_hash.specs.declared.option.HashOption.{HashOption}
use Rattle.hsp_hash.specs.declared.option.HashOption.TheVariants.{ByNa, ByLocal, ByHandle}

-- the part of a handle that is hashed
abbrev pub hashed_part : HashOption → List ℕ → List ℕ
hashed_part ByNa handle = naming_authority handle
hashed_part ByLocal handle = local_name handle
hashed_part ByHandle handle = handle

-- the MD5 of the part, the octets 97 to 122 each lowered by 32
abbrev pub digest : HashOption → List ℕ → List ℕ
digest option handle = md5 (map to_ascii_uppercase (hashed_part option handle))

-- the absolute value of the signed integer of 32 bits that v spells in two's complement
abbrev pub absolute_value : ℕ → ℕ
absolute_value v = if nat_lt v (2 ^ 31) then v else 2 ^ 32 - v

-- the last four octets of a digest, the most significant first, as such an integer; its absolute value modulo the
-- servers
abbrev pub place_of_digest : List ℕ → ℕ → ℕ
place_of_digest octets servers = absolute_value (big_number 4 (drop 12 octets)) % servers

-- the place of the responsible server in the order of the site's server records, counted from 0
abbrev pub server_place : HashOption → List ℕ → ℕ → ℕ
server_place option handle servers = place_of_digest (digest option handle) servers
