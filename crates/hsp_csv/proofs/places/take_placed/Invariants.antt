use Rattle.std.proofs.Common.{◌≡◌, []}
use Rattle.csv.specs.Records.{partial_of}
use Rattle.hsp_csv.specs.Places.{fresh}
use Rattle.hsp_csv.specs.Scan.{state_of}
use Rattle.hsp_csv.specs.Walks.{LeadOn, octets_left, shown, walk_of}
use Rattle.hsp_csv.proofs.places.take_placed.Given as goal

abbrev pub invariant-octets : goal.invariant-octets
invariant-octets g l = record {
  partial : partial_of l.placed.fields ≡ [];
  leads : LeadOn (octets_left g.R.Read.remaining l.fn.reader.octets)
      (fresh (state_of l.fn.reader.walk.stand) l.fn.reader.walk.at)
      (octets_left g.R.Read.remaining l.reader.octets) (walk_of l.reader.walk (shown l.placed));
}
