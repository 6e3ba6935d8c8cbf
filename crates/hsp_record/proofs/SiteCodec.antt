-- Readers of HS_SITE data and of request bodies, each with the fields that it reads.
use Rattle.std.proofs.Common.{◌≡◌, ℕ, suc, ◌^◌, ◌<◌, List, [], ◌∷◌, length, refl, sym, ap, arith, zero}
use Rattle.hsp_record.specs.Fields.{IsOctets}
use Rattle.hsp_record.specs.Site.{AttributePair, Interface, Server, Site, attribute_fields, interface_fields}
use Rattle.hsp_record.specs.Site.{server_fields, head_fields, IsAttribute, IsInterface, IsServer, IsHead}
use Rattle.hsp_record.specs.Request.{RequestBody, IsRequest, request_fields}
use Rattle.hsp_record.specs.Reading.{pair_of, pair_at, attribute_at, interface_at, server_at, head_of, head_at}
use Rattle.hsp_record.specs.Reading.{with_servers, request_at}
use Rattle.hsp_record.specs.declared.fault.Stop.{Stop}
use Rattle.hsp_record.proofs.Codec.{Codec, both_codec, as_codec, seen_codec}
use Rattle.hsp_record.proofs.Readers.{octets_codec, octet_codec, u16_codec, u32_codec, run_codec, list_codec}

-- two octets are those of their pair
pair_back : (octets : List ℕ) → length octets ≡ 2 → (pair_of octets).0 ∷ (pair_of octets).1 ∷ [] ≡ octets
pair_back [] len = absurd (omega arith)
pair_back (a ∷ []) len = absurd (omega arith)
pair_back (a ∷ b ∷ []) len = refl
pair_back (a ∷ b ∷ c ∷ octets) len = absurd (omega arith)

-- two numbers below 256 are octets
IsOctets-pair : (a b : ℕ) → a < 256 → b < 256 → IsOctets (a ∷ b ∷ [])
IsOctets-pair a b ha hb zero = ha
IsOctets-pair a b ha hb (suc zero) = hb
IsOctets-pair a b ha hb (suc (suc i)) = omega arith

-- two numbers of one octet each
pair_codec : {L : Stop → Type 0}
    → Codec L (ℕ × ℕ) pair_at (λ _ p. (p.0 < 2 ^ 8) × (p.1 < 2 ^ 8)) (λ p. (p.0 ∷ p.1 ∷ []) ∷ [])
unfolding pair_at
pair_codec =
    as_codec pair_at (λ _ p. (p.0 < 2 ^ 8) × (p.1 < 2 ^ 8)) (λ p. (p.0 ∷ p.1 ∷ []) ∷ []) pair_of (octets_codec 2)
    (λ bytes. refl)
    (λ _ x h. (h.1 0, h.1 1))
    (λ x h. ap (λ l. l ∷ []) (pair_back x h.0))
    (λ _ p h. (p.0 ∷ p.1 ∷ [], refl, (refl, IsOctets-pair p.0 p.1 h.0 h.1)))

-- an attribute is a name and a value
attribute_codec : {L : Stop → Type 0} → Codec L AttributePair attribute_at (λ _. IsAttribute) attribute_fields
unfolding attribute_at
attribute_codec =
    seen_codec (λ p. record { name = p.0; value = p.1 }) (both_codec run_codec run_codec)
    (λ _ p h. record { name = h.0; value = h.1 })
    (λ _ a h. ((a.name, a.value), refl, (h.name, h.value)))

-- an interface has its type, its protocol and its port
interface_codec : {L : Stop → Type 0} → Codec L Interface interface_at (λ _. IsInterface) interface_fields
unfolding interface_at
interface_codec =
    seen_codec (λ p. record { service_type = p.0; protocol = p.1.0; port = p.1.1 })
    (both_codec octet_codec (both_codec octet_codec u32_codec))
    (λ _ p h. record { service_type = h.0; protocol = h.1.0; port = h.1.1 })
    (λ _ i h. ((i.service_type, (i.protocol, i.port)), refl, (h.service_type, (h.protocol, h.port))))

-- a server has its number, address, key and interfaces
pub server_codec : {L : Stop → Type 0} → Codec L Server server_at (λ _. IsServer) server_fields
unfolding server_at
server_codec =
    seen_codec (λ p. record { id = p.0; address = p.1.0; key = p.1.1.0; interfaces = p.1.1.1 })
    (both_codec u32_codec (both_codec (octets_codec 16) (both_codec run_codec (list_codec interface_codec))))
    (λ _ p h. record { id = h.0; address = h.1.0; key = h.1.1.0; interfaces = h.1.1.1 })
    (λ _ s h. ((s.id, (s.address, (s.key, s.interfaces))), refl, (h.id, (h.address, (h.key, h.interfaces)))))

-- a record of no server, of which the head is read
pub record IsBareHead (s : Site) : Type 0 where
  pub fits : IsHead s
  pub bare : s.servers ≡ []

-- what stands before the servers of a site
pub head_codec : {L : Stop → Type 0} → Codec L Site head_at (λ _. IsBareHead) head_fields
unfolding head_at
head_codec =
    seen_codec head_of
    (both_codec u16_codec
    (both_codec pair_codec
    (both_codec u16_codec
    (both_codec octet_codec (both_codec octet_codec (both_codec run_codec (list_codec attribute_codec)))))))
    (λ _ p h. record {
      fits =
          record {
            version = h.0;
            major = h.1.0.0;
            minor = h.1.0.1;
            serial = h.1.1.0;
            mask = h.1.1.1.0;
            option = h.1.1.1.1.0;
            filter = h.1.1.1.1.1.0;
            attributes = h.1.1.1.1.1.1;
          };
      bare = refl;
    })
    (λ _ s h. (
      (s.version, ((s.major, s.minor), (s.serial, (s.mask, (s.option, (s.filter, s.attributes)))))),
      ap (with_servers s) (sym h.bare),
      (
        h.fits.version,
        (
          (h.fits.major, h.fits.minor),
          (h.fits.serial, (h.fits.mask, (h.fits.option, (h.fits.filter, h.fits.attributes)))),
        ),
      ),
    ))

-- without the servers
abbrev pub head_only : Site → Site
head_only s = with_servers s []

-- the head of a site is one whatever its servers are
pub IsHead-servers : (s : Site) (servers : List Server) → IsHead s → IsHead (with_servers s servers)
IsHead-servers s servers h =
    record {
      version = h.version;
      major = h.major;
      minor = h.minor;
      serial = h.serial;
      mask = h.mask;
      option = h.option;
      filter = h.filter;
      attributes = h.attributes;
    }

-- a body is a handle and the lists that it asks for
pub request_codec : {L : Stop → Type 0} → Codec L RequestBody request_at (λ _. IsRequest) request_fields
unfolding request_at
request_codec =
    seen_codec (λ p. record { handle = p.0; indices = p.1.0; types = p.1.1 })
    (both_codec run_codec (both_codec (list_codec u32_codec) (list_codec run_codec)))
    (λ _ p h. record { handle = h.0; indices = h.1.0; types = h.1.1 })
    (λ _ r h. ((r.handle, (r.indices, r.types)), refl, (h.handle, (h.indices, h.types))))
