use Rattle.std.proofs.Common.{◌++◌, ap, ◌∙◌}
use Rattle.hsp_record.specs.Fields.{joined}
use Rattle.hsp_record.specs.Values.{HandleValue, value_fields}
use Rattle.hsp_record.proofs.Appending.{append_value}
use Rattle.hsp_record.proofs.values_encoding.push_value.Goals as goal

pub returns : goal.returns
returns c =
    let i = c.value.inside in
    let v : HandleValue =
    record {
      index = i.index;
      type_octets = i.type_octets.now;
      octets = i.octets.now;
      permission = i.permission;
      ttl_kind = i.ttl_kind;
      ttl = i.ttl;
      timestamp = i.timestamp;
      references = i.references;
    } in
    rw (
      c.in_ok-push_references.ensures,
      c.in_ok-extend_from_slice-3.ensures.items,
      c.in_ok-extend_from_slice-2.ensures.items,
      c.in_ok-push_octet-2.ensures,
      c.in_ok-push_octet.ensures,
      c.in_ok-push_run-2.ensures,
      c.in_ok-push_run.ensures,
      c.in_ok-extend_from_slice.ensures.items,
      c.to_be_bytes.ensures,
      c.to_be_bytes-2.ensures,
      c.to_be_bytes-3.ensures,
    )
    (append_value v c.args.out.now.items
    ∙ ap (λ (w : HandleValue). c.args.out.now.items ++ joined (value_fields w)) c.value.view_is)
