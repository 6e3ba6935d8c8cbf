-- A request body has no limit.
use Rattle.std.proofs.Common.{◌≡◌, ℕ, List, Err}
use Rattle.hsp_record.specs.declared.fault.Stop.{Stop}
use Rattle.hsp_record.specs.declared.fault.Stop.TheVariants.{Short}
use Rattle.hsp_record.specs.Request.{RequestBody, request_format}
use Rattle.hsp_record.specs.Reading.{request_at}
use Rattle.hsp_record.proofs.Codec.{never}
use Rattle.hsp_record.proofs.SiteCodec.{request_codec}
use Rattle.hsp_record.proofs.Limits.{Passes, Limited}

-- no reason stops a body but those of its fields
none_stops : (octets : List ℕ) (stop : Stop) → Passes request_format octets stop → request_at octets ≡ Err stop
none_stops octets (Short left) p = absurd p
none_stops octets stop p = absurd p

-- the reader of bodies has no limit to keep to
pub request_limited : Limited never RequestBody request_at request_format
request_limited =
    let c = request_codec {L = never} in
    record {
      codec =
          record {
            any = c.any;
            takes = c.takes;
            again = c.again;
            fails = c.fails;
            cut = c.cut;
            kept = c.kept;
            some = c.some;
            octets = c.octets;
          };
      stops = none_stops;
      passed = λ octets stop fits at e. absurd at;
    }
