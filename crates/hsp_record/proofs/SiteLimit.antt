-- The limit on the number of servers.
use Rattle.std.proofs.Common.{◌≡◌, ℕ, ◌^◌, ◌<◌, Bool, true, false, ltb, List, [], ◌++◌, length, Err, refl, ap, ◌∙◌}
use Rattle.std.specs.List.{AllByRecursion}
use Rattle.std.specs.Int.{w32, to_be_bytes}
use Rattle.std.proofs.lemmas.Bool.{ltb-false, ltb-true, le-ltb, lt-ltb}
use Rattle.hsp_record.specs.declared.fault.Stop.{Stop}
use Rattle.hsp_record.specs.declared.fault.Stop.TheVariants.{Short, TooMany}
use Rattle.hsp_record.specs.Fields.{IsOctets, joined, list_fields}
use Rattle.hsp_record.specs.Site.{Server, Site, server_fields, head_fields, site_fields, IsServer, IsHead, site_format}
use Rattle.hsp_record.specs.Reading.{both_at, times_at, server_at, head_at, server_count_at, with_servers, servers_at}
use Rattle.hsp_record.specs.Reading.{site_at}
use Rattle.hsp_record.proofs.Codec.{Codec, IsOctets-rest, never, never_stops, first_stops, second_stops, both_codec}
use Rattle.hsp_record.proofs.Codec.{seen_codec, guard_codec, Kept}
use Rattle.hsp_record.proofs.Readers.{u32_codec, times_codec, behind_codec, number_front, guarded_stops}
use Rattle.hsp_record.proofs.SiteCodec.{server_codec, head_codec, head_only, IsHead-servers}
use Rattle.hsp_record.proofs.Limits.{held, Passes, Limited}

-- reading stops at a number of servers above the limit
abbrev pub AtMany : Stop → Type 0
AtMany e = e ≡ TooMany

-- servers, whose number is within the limit or not
abbrev AreServers : Bool → List Server → Type 0
AreServers k servers =
    ((length servers < 2 ^ 32) × Kept k (ltb 1024 (length servers))) × AllByRecursion IsServer servers

-- servers within their limit are a list
servers_codec : Codec AtMany (List Server) servers_at AreServers (list_fields server_fields)
unfolding servers_at server_count_at
servers_codec =
    behind_codec {F = λ _. AllByRecursion IsServer} length (times_at server_at)
    (guard_codec (ltb 1024) (λ _. TooMany) (λ _. refl) u32_codec) (λ n _. times_codec server_codec n)

-- a head and servers make a site
site_to : (k : Bool) (s : Site) (servers : List Server) → IsHead s → AreServers k servers
    → held site_format k (with_servers s servers)
site_to true s servers h hs = ((IsHead-servers s servers h, (hs.0.0, hs.1)), ltb-false 1024 (length servers) hs.0.1)
site_to false s servers h hs = (IsHead-servers s servers h, (hs.0.0, hs.1))

-- a site has a head and servers
site_from : (k : Bool) (s : Site) → held site_format k s → IsHead s × AreServers k s.servers
site_from true s h = (h.0.0, ((h.0.1.0, le-ltb 1024 (length s.servers) h.1), h.0.1.1))
site_from false s h = (h.0, ((h.1.0, tt), h.1.1))

-- HS_SITE data are the head of a site and its servers
pub site_codec : Codec AtMany Site site_at (held site_format) site_fields
unfolding site_at
site_codec =
    seen_codec (λ p. with_servers p.0 p.1) (both_codec head_codec servers_codec)
    (λ k p h. site_to k p.0 p.1 h.0.fits h.1)
    (λ k s h. let p = site_from k s h in
    ((head_only s, s.servers), refl, (record { fits = IsHead-servers s [] p.0; bare = refl }, p.1)))

-- data that break the limit stop the reader
site_stops : (octets : List ℕ) (stop : Stop) → Passes site_format octets stop → site_at octets ≡ Err stop
unfolding site_at servers_at server_count_at
site_stops octets TooMany m =
    let head =
    (head_codec {L = never}).again (head_only m.site) (to_be_bytes w32 m.count ++ m.rest)
    (record { fits = IsHead-servers m.site [] m.fits; bare = refl }) in
    rw (m.begins, head, number_front m.count m.rest m.counted, lt-ltb 1024 m.count m.above) refl
site_stops octets stop p = absurd p

-- the reader stops for the limit only where data break it
site_passed : (octets : List ℕ) (stop : Stop) → IsOctets octets → AtMany stop → site_at octets ≡ Err stop
    → Passes site_format octets stop
unfolding site_at servers_at server_count_at
site_passed octets TooMany fits at e =
    let long : (left : ℕ) → TooMany ≡ Short left → ⊥ = λ left h. cc in
    let both = first_stops (both_at head_at servers_at octets) _ TooMany e (λ x h. cc) in
    let (head, is, after) =
    second_stops (head_at octets) _ TooMany both (never_stops head_codec octets TooMany fits long) in
    let h = (head_codec {L = never}).takes octets head.0 head.1 fits is in
    let rest_fits = IsOctets-rest octets (joined (head_fields head.0)) head.1 fits h.1 in
    let n =
    guarded_stops (ltb 1024) (λ _. TooMany) (λ n _. times_codec server_codec n) head.1 TooMany rest_fits long
    (first_stops (servers_at head.1) _ TooMany after (λ x h. cc)) in
    record {
      site = head.0;
      fits = h.0.fits;
      count = n.0;
      above = ltb-true 1024 n.0 n.2;
      counted = n.1;
      rest = n.4;
      begins = h.1 ∙ ap (λ l. joined (head_fields head.0) ++ l) {y = to_be_bytes w32 n.0 ++ n.4} n.5;
    }
site_passed octets stop fits at e = absurd cc

-- the reader of sites keeps to its limit
pub site_limited : Limited AtMany Site site_at site_format
site_limited = record { codec = site_codec; stops = site_stops; passed = site_passed }
