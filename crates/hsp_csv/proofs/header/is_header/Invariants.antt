use Rattle.std.proofs.Common.{◌≡◌, drop}
use Rattle.csv.specs.Records.{fields_of}
use Rattle.hsp_csv.specs.Header.{names_in, same_fields}
use Rattle.hsp_csv.proofs.header.is_header.Given as goal

-- whether they are the same is decided from the place on
abbrev pub invariant-loop-place : goal.invariant-loop-place
invariant-loop-place l =
    same_fields (drop l.place (fields_of l.«record»)) (drop l.place (names_in l.header))
    ≡ same_fields (fields_of l.«record») (names_in l.header)
