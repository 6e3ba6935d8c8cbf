use Rattle.std.proofs.Common.{◌≡◌, ◌∙◌, ◌++◌, Some, option_map, slice_get, subst}
use Rattle.hsp_names.specs.Lent.{octets_of}
use Rattle.hsp_stream.specs.PlaceLines.{place_line}
use Rattle.hsp_stream.proofs.PlacePrinting.{one_placed}
use Rattle.hsp_stream.proofs.place_lines.push_sites.Goals as goal

pub loop-number-preserved : goal.loop-number-preserved
loop-number-preserved c =
    let out = c.loop-number.out.items in
    let new = c.push_site.new.out.items in
    let sites = c.args.sites.now in
    let n = c.loop-number.number in
    record {
      same = c.in_ok-push_site.ensures.same ∙ c.loop-number.invariant.same;
      lines =
          one_placed (octets_of c.args.handle) out new sites n _
          (subst (λ h. option_map (λ site. out ++ place_line h site) (slice_get sites n) ≡ Some new)
          c.bytes.ensures.octets c.in_ok-push_site.ensures.line) c.loop-number.invariant.lines;
    }
