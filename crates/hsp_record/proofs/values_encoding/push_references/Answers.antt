use Rattle.std.proofs.Common.{◌++◌, List, ap, ◌∙◌}
use Rattle.hsp_record.specs.Fields.{joined, list_fields}
use Rattle.hsp_record.specs.Values.{ValueReference, reference_fields}
use Rattle.hsp_record.proofs.Appending.{append_references}
use Rattle.hsp_record.proofs.values_encoding.push_references.Goals as goal

pub returns : goal.returns
returns c =
    let i = c.references.inside in
    rw (c.in_ok-extend_from_slice-2.ensures.items, c.in_ok-extend_from_slice.ensures.items, c.to_be_bytes.ensures)
    (append_references i.count i.octets.now c.args.out.now.items c.references.invariant
    ∙ ap (λ (rs : List ValueReference). c.args.out.now.items ++ joined (list_fields reference_fields rs))
    c.references.view_is)
