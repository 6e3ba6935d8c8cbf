use Rattle.std.proofs.Common.{◌≡◌, ◌++◌, drop}
use Rattle.hsp_names.specs.Lent.{octets_of}
use Rattle.hsp_stream.specs.PlaceLines.{place_lines}
use Rattle.hsp_stream.proofs.place_lines.push_sites.Given as goal

abbrev pub invariant-loop-number : goal.invariant-loop-number
invariant-loop-number l = record {
  same : l.digests ≡ octets_of l.handle;
  lines : l.out.items ++ place_lines (octets_of l.handle) (drop l.number l.sites) ≡ l.fn.out.items
      ++ place_lines (octets_of l.handle) l.sites;
}
