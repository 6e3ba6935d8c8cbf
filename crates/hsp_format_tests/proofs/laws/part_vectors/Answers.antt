use Rattle.hsp_format_tests.proofs.Vectors.{part_vectors}
use Rattle.hsp_format_tests.proofs.laws.part_vectors.Goals as goal

pub returns : goal.returns
returns c = part_vectors
