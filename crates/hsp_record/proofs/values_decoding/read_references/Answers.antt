use Rattle.std.proofs.Common.{◌≡◌, Ok, List, ℕ, ap, ◌∙◌, arith}
use Rattle.hsp_record.specs.Reading.{times_at, reference_at}
use Rattle.hsp_record.proofs.Codec.{gave}
use Rattle.hsp_record.proofs.ValueLoop.{references_split}
use Rattle.hsp_record.proofs.values_decoding.read_references.Goals as goal

pub overflow_sub-list : goal.overflow_sub-list
overflow_sub-list c =
    let found = c.in_ok-after.ensures in
    let read : times_at reference_at c.in_ok-count.count c.in_ok-count.list.now
    ≡ Ok (found.0.0, c.in_ok-after.after.now) = found.2 ∙ ap (λ (rest : List ℕ). gave found.0.0 rest) found.1 in
    (references_split c.args.bytes.now c.in_ok-count.count c.in_ok-count.list.now found.0.0 c.in_ok-after.after.now
    (λ i. omega (arith, c.type_inv.bytes i)) c.in_ok-count.ensures read).0

pub invariant_of-result : goal.invariant_of-result
invariant_of-result c =
    let found = c.in_ok-after.ensures in
    let read : times_at reference_at c.in_ok-count.count c.in_ok-count.list.now
    ≡ Ok (found.0.0, c.in_ok-after.after.now) = found.2 ∙ ap (λ (rest : List ℕ). gave found.0.0 rest) found.1 in
    ((references_split c.args.bytes.now c.in_ok-count.count c.in_ok-count.list.now found.0.0 c.in_ok-after.after.now
    (λ i. omega (arith, c.type_inv.bytes i)) c.in_ok-count.ensures read).1 c.split_at.result.0.now
    c.split_at.result.1.now c.split_at.ensures.front c.split_at.ensures.back).are

pub returns : goal.returns
returns c =
    let found = c.in_ok-after.ensures in
    let read : times_at reference_at c.in_ok-count.count c.in_ok-count.list.now
    ≡ Ok (found.0.0, c.in_ok-after.after.now) = found.2 ∙ ap (λ (rest : List ℕ). gave found.0.0 rest) found.1 in
    ((references_split c.args.bytes.now c.in_ok-count.count c.in_ok-count.list.now found.0.0 c.in_ok-after.after.now
    (λ i. omega (arith, c.type_inv.bytes i)) c.in_ok-count.ensures read).1 c.split_at.result.0.now
    c.split_at.result.1.now c.split_at.ensures.front c.split_at.ensures.back).read
