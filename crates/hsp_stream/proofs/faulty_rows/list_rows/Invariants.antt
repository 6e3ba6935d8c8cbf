use Rattle.hsp_csv.specs.Walks.{placed_left}
use Rattle.hsp_stream.specs.Checkers.{IsReady}
use Rattle.hsp_stream.proofs.Listing.{SoFar}
use Rattle.hsp_stream.proofs.faulty_rows.list_rows.Given as goal

abbrev pub invariant-rows : goal.invariant-rows
invariant-rows g l = record {
  ready : IsReady l.checker;
  far : SoFar l.fn.checker l.checker (placed_left g.R.Read.remaining l.fn.reader)
      (placed_left g.R.Read.remaining l.reader) (g.W.Write.contents l.fn.writer) (g.W.Write.contents l.writer) l.some;
}
