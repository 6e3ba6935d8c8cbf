use Rattle.std.proofs.Common.{◌++◌, ap, ◌∙◌}
use Rattle.hsp_record.specs.Fields.{joined}
use Rattle.hsp_record.specs.Site.{Site, head_fields}
use Rattle.hsp_record.proofs.Appending.{append_head}
use Rattle.hsp_record.proofs.site_encoding.push_head.Goals as goal

pub returns : goal.returns
returns c =
    let i = c.site.inside in
    let s : Site =
    record {
      version = i.version;
      major = i.protocol.0;
      minor = i.protocol.1;
      serial = i.serial;
      mask = i.mask;
      option = i.option;
      filter = i.filter.items;
      attributes = i.attributes.items;
      servers = i.servers.items;
    } in
    rw (
      c.in_ok-push_attributes.ensures,
      c.in_ok-push_run.ensures,
      c.in_ok-push_octet-2.ensures,
      c.in_ok-push_octet.ensures,
      c.in_ok-extend_from_slice-3.ensures.items,
      c.in_ok-extend_from_slice-2.ensures.items,
      c.in_ok-extend_from_slice.ensures.items,
      c.to_be_bytes.ensures,
      c.to_be_bytes-2.ensures,
      c.deref.ensures.value,
      c.deref-2.ensures.value,
    )
    (append_head s c.args.out.now.items
    ∙ ap (λ (t : Site). c.args.out.now.items ++ joined (head_fields t)) c.site.view_is)
