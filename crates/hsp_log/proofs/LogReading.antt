-- The records of a log, as they are read.
use Rattle.std.proofs.Common.{◌≡◌, ◌∙◌, ℕ, true, List, [], ◌∷◌, ◌++◌, Option, Some, None, IfSome, refl, ap}
use Rattle.csv.specs.declared.reader.Reader.{Reader}
use Rattle.hsp_csv.specs.Records.{Fields, IsKnown, TakesRecord, records_left, records_of}
use Rattle.hsp_log.specs.LogRows.{OfLog}

-- the records that are left are fewer by the one that was read
pub left_more : {R : Type 0} (remaining : R → Option (List ℕ)) (first now next : Reader R) (done : List Fields)
    (fields : Fields)
    → (IsKnown remaining first → (records_left remaining first ≡ done ++ records_left remaining now)
    × IsKnown remaining now)
    → TakesRecord remaining now next true fields → IsKnown remaining first
    → (records_left remaining first ≡ done ++ fields ∷ records_left remaining next) × IsKnown remaining next
left_more remaining first now next done fields left takes known =
    let before = left known in
    let after = takes before.1 in
    (before.0 ∙ ap (λ l. done ++ l) after.0, after.1)

-- what holds of any records holds of a log's
pub log_all : (P : List Fields → Type 0) (log : Option (List ℕ)) → ((records : List Fields) → P records) → OfLog log P
log_all P None all = ([], tt, all [])
log_all P (Some octets) all = (records_of octets, refl, all (records_of octets))

-- what follows from the records of a log
pub log_more : (P Q : List Fields → Type 0) (log : Option (List ℕ)) → ((records : List Fields) → P records → Q records)
    → OfLog log P → OfLog log Q
log_more P Q log all (records, are, is) = (records, are, all records is)

-- the records that a reader has left at the start of a log are those of the log
pub at_start : {R : Type 0} (remaining : R → Option (List ℕ)) (log : Option (List ℕ)) (reader : Reader R)
    (records : List Fields) → IfSome log (λ octets. IsKnown remaining reader)
    → IfSome log (λ octets. records_left remaining reader ≡ records_of octets)
    → (IsKnown remaining reader → records ≡ records_left remaining reader)
    → IfSome log (λ octets. records ≡ records_of octets)
at_start remaining None reader records known are left = tt
at_start remaining (Some octets) reader records known are left = left known ∙ are
