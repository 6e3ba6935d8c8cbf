use Rattle.std.proofs.Common.{◌≡◌, Ok, refl, arith}
use Rattle.hsp_record.specs.Reading.{value_list_at}
use Rattle.hsp_record.proofs.Limits.{takes}
use Rattle.hsp_record.proofs.ValueLimit.{list_limited}
use Rattle.hsp_record.proofs.values_decoding.read_value_list.Goals as goal

pub invariant_of-result : goal.invariant_of-result
unfolding value_list_at
invariant_of-result c =
    let read : value_list_at c.args.bytes.now ≡ Ok (c.in_ok-values.values.items, c.in_ok-values.rest.now) =
    rw (c.in_ok-count.ensures, c.in_ok-values.ensures) refl in
    (takes list_limited c.args.bytes.now c.in_ok-values.values.items c.in_ok-values.rest.now
    (λ i. omega (arith, c.type_inv.bytes i)) read).0
