use Rattle.std.proofs.Common.{◌≡◌, Ok, List, ℕ, refl, ap, ◌∙◌}
use Rattle.hsp_record.specs.Site.{Server}
use Rattle.hsp_record.specs.Reading.{times_at, interface_at, server_at, list_at}
use Rattle.hsp_record.proofs.Codec.{gave}
use Rattle.hsp_record.proofs.site_decoding.find_server.Goals as goal

pub returns : goal.returns
unfolding server_at list_at
returns c =
    let found = c.in_ok-rest.ensures in
    let server : Server =
    record {
      id = c.in_ok-id.id;
      address = c.in_ok-address.address;
      key = c.in_ok-key.key.now;
      interfaces = found.0.0;
    } in
    let interfaces : times_at interface_at c.in_ok-interface_count.interface_count
    c.in_ok-interface_count.interfaces.now ≡ Ok (found.0.0, c.in_ok-rest.rest.now) =
    found.2 ∙ ap (λ (rest : List ℕ). gave found.0.0 rest) found.1 in (
      (server, c.in_ok-rest.rest.now),
      (interfaces, refl),
      rw (
        c.in_ok-id.ensures,
        c.in_ok-address.ensures,
        c.in_ok-key.ensures,
        c.in_ok-interface_count.ensures,
        interfaces,
      )
          refl,
    )
