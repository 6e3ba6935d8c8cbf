-- The vectors, by computing: MD5 is unfolded down to its steps, each of which is computed once.
use Rattle.std.proofs.Common.{refl}
use Rattle.hex.specs.Hex.{encode_with}
use Rattle.md5.specs.Md5.{md5, digest_bytes, hash_after, compress, rounds, block_words}
use Rattle.hsp_format_tests.specs.Vectors.{PartVectors, StandardVectors}

-- the digests of RFC 1321's own texts
pub standard_vectors : StandardVectors
unfolding md5 digest_bytes hash_after compress rounds block_words encode_with
standard_vectors = record { empty = refl; lower_a = refl; abc = refl; message = refl; letters = refl }

-- the digests and values of the parts of handles
pub part_vectors : PartVectors
unfolding md5 digest_bytes hash_after compress rounds block_words encode_with
part_vectors = record {
  empty = (refl, refl);
  zero = (refl, refl);
  one = (refl, refl);
  two = (refl, refl);
  three = (refl, refl);
  ten = (refl, refl);
  one_two_three = (refl, refl);
  upper_a = (refl, refl);
}
