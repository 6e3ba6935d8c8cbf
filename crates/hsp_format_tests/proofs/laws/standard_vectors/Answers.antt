use Rattle.hsp_format_tests.proofs.Vectors.{standard_vectors}
use Rattle.hsp_format_tests.proofs.laws.standard_vectors.Goals as goal

pub returns : goal.returns
returns c = standard_vectors
