use Rattle.std.proofs.Common.{◌≡◌, Ok, refl, arith}
use Rattle.hsp_record.specs.Site.{Site}
use Rattle.hsp_record.specs.Reading.{site_at, servers_at}
use Rattle.hsp_record.proofs.Limits.{takes}
use Rattle.hsp_record.proofs.SiteLimit.{site_limited}
use Rattle.hsp_record.proofs.site_decoding.read_site.Goals as goal

pub invariant_of-result : goal.invariant_of-result
unfolding site_at servers_at
invariant_of-result c =
    let head = c.in_ok-head.head in
    let s : Site =
    record {
      version = head.version;
      major = head.protocol.0;
      minor = head.protocol.1;
      serial = head.serial;
      mask = head.mask;
      option = head.option;
      filter = head.filter.now;
      attributes = head.attributes.items;
      servers = c.in_ok-servers.servers.items;
    } in
    let read : site_at c.args.bytes.now ≡ Ok (s, c.in_ok-servers.rest.now) =
    rw (c.in_ok-head.ensures, c.in_ok-count.ensures, c.in_ok-servers.ensures) refl in
    let t =
    takes site_limited c.args.bytes.now s c.in_ok-servers.rest.now (λ i. omega (arith, c.type_inv.bytes i)) read in
    rw c.in_ok-filter.ensures.items t.0
