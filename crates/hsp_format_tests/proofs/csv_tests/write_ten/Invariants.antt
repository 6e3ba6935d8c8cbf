use Rattle.hsp_csv.specs.Records.{IsReading}
use Rattle.hsp_format_tests.proofs.csv_tests.write_ten.Given as goal

abbrev pub invariant-loop : goal.invariant-loop
invariant-loop g l = IsReading l.reader
