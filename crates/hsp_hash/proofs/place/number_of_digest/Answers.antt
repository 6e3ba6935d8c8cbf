use Rattle.hsp_hash.proofs.Signed.{place_is}
use Rattle.hsp_hash.proofs.place.number_of_digest.Goals as goal

pub returns-clause-place : goal.returns-clause-place
returns-clause-place c =
    place_is c.args.digest.now c.read_i32-number.result c.unsigned_abs.result c.args.servers c.told-digest c.fits-digest
    c.read_i32-number.ensures c.unsigned_abs.ensures.value
