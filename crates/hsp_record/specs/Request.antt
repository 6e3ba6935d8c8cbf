-- The body of a resolution request, by the fields of RFC 3652 section 3.2.1, in the order and widths of this project's
-- profile.
use Rattle.std.specs.Prelude.{ℕ, ◌<◌, ◌^◌, List, [], ◌∷◌, ◌++◌, Result, Ok, Err}
use Rattle.std.specs.Int.{w32, to_be_bytes}
use Rattle.hsp_record.specs.declared.fault.RecordFault.{RecordFault}
use Rattle.hsp_record.specs.Fields.{run_fields, IsRun, list_fields, IsCounted, Format}

-- a handle, and the lists of the indices and of the types that are asked for
pub record RequestBody : Type 0 where
  pub handle : List ℕ
  pub indices : List ℕ
  pub types : List (List ℕ)

abbrev pub request_fields : RequestBody → List (List ℕ)
request_fields r =
    run_fields r.handle
    ++ (list_fields (λ index. to_be_bytes w32 index ∷ []) r.indices ++ list_fields run_fields r.types)

pub record IsRequest (r : RequestBody) : Type 0 where
  pub handle : IsRun r.handle
  pub indices : IsCounted (λ index. index < 2 ^ 32) r.indices
  pub types : IsCounted IsRun r.types

abbrev pub request_format : Format RequestBody
request_format = record {
  Fits = IsRequest;
  Wide = IsRequest;
  fields = request_fields;
  HasTooManyServers = λ _. ⊥;
  HasIndexTwice = λ _ _. ⊥;
}

-- the handle of the body, or why there is none
abbrev pub handle_of : Result RequestBody RecordFault → Result (List ℕ) RecordFault
handle_of (Ok r) = Ok r.handle
handle_of (Err fault) = Err fault
