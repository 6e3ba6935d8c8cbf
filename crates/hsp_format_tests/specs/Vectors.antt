-- Test vectors of MD5 and of places, as values of the definitions.
use Rattle.std.specs.Prelude.{◌≡◌, ℕ, List, codes, drop}
use Rattle.byteorder.specs.Endian.{big_number}
use Rattle.hex.specs.Hex.{encode_lower}
use Rattle.md5.specs.Md5.{md5}
use Rattle.hsp_hash.specs.Place.{absolute_value}

-- the digest of a text in hexadecimal digits, as RFC 1321 prints it
abbrev pub HasDigest : List ℕ → List ℕ → Type 0
HasDigest text digits = encode_lower (md5 text) ≡ digits

-- the absolute value of the signed integer in the last four octets of the digest of a text, of which a place is the
-- remainder (RFC 3652, section 3.1.3)
abbrev pub HasValue : List ℕ → ℕ → Type 0
HasValue text value = absolute_value (big_number 4 (drop 12 (md5 text))) ≡ value

-- the vectors of RFC 1321, section A.5, whose texts have one block with their padding
pub record StandardVectors : Type 0 where
  pub empty : HasDigest (codes "") (codes "d41d8cd98f00b204e9800998ecf8427e")
  pub lower_a : HasDigest (codes "a") (codes "0cc175b9c0f1b6a831c399e269772661")
  pub abc : HasDigest (codes "abc") (codes "900150983cd24fb0d6963f7d28e17f72")
  pub message : HasDigest (codes "message digest") (codes "f96b697d7cb7938d525a2f31aaf161d0")
  pub letters : HasDigest (codes "abcdefghijklmnopqrstuvwxyz") (codes "c3fcd3d76192e4007dfb496cca67e13b")

-- a part of a handle in upper case, its digest, and the value of which its place is the remainder
abbrev pub Hashes : List ℕ → List ℕ → ℕ → Type 0
Hashes text digits value = HasDigest text digits × HasValue text value

-- digests and values of parts of handles
pub record PartVectors : Type 0 where
  pub empty : Hashes (codes "") (codes "d41d8cd98f00b204e9800998ecf8427e") 319274370
  pub zero : Hashes (codes "0") (codes "cfcd208495d565ef66e7dff9f98764da") 108567334
  pub one : Hashes (codes "1") (codes "c4ca4238a0b923820dcc509a6f75849b") 1869972635
  pub two : Hashes (codes "2") (codes "c81e728d9d4c2f636f067f89cc14862c") 871070164
  pub three : Hashes (codes "3") (codes "eccbc87e4b5ce2fe28308fd9f2a7baf3") 223888653
  pub ten : Hashes (codes "10") (codes "d3d9446802a44259755d38e6d163e820") 781981664
  pub one_two_three : Hashes (codes "123") (codes "202cb962ac59075b964b07152d234b70") 757287792
  pub upper_a : Hashes (codes "A") (codes "7fc56270e7a70fa81a5935b72eacbe29") 783072809
