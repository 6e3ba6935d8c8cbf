use Rattle.std.proofs.Common.{[], ap}
use Rattle.hsp_record.specs.Fields.{list_fields}
use Rattle.hsp_record.specs.Site.{Site, head_fields, server_fields}
use Rattle.hsp_record.proofs.Appending.{append_fields}
use Rattle.hsp_record.proofs.site_encoding.encode_site.Goals as goal

pub returns : goal.returns
returns c =
    rw (
      c.in_ok-push_servers.ensures,
      c.in_ok-push_head.ensures,
      c.new-out.ensures.items,
      c.deref.ensures.value,
      ap (λ (s : Site). s.servers) c.site.view_is,
    )
    (append_fields [] (head_fields c.args.site.now) (list_fields server_fields c.args.site.now.servers))
