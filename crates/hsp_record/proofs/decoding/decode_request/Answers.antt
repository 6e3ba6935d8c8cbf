use Rattle.std.proofs.Common.{ℕ, List, Result, Err, ap, subst, sym, arith}
use Rattle.hsp_record.specs.declared.fault.RecordFault.{RecordFault}
use Rattle.hsp_record.specs.declared.fault.RecordFault.TheVariants.{OutOfMemory}
use Rattle.hsp_record.specs.Fields.{Agrees}
use Rattle.hsp_record.specs.Request.{RequestBody, handle_of}
use Rattle.hsp_record.specs.Reading.{answer_of, request_at}
use Rattle.hsp_record.proofs.Limits.{answer_means, means_answer, agrees_with_none}
use Rattle.hsp_record.proofs.RequestLimit.{request_limited}
use Rattle.hsp_record.proofs.decoding.decode_request.Goals as goal

-- answers that agree have one handle
handles_agree : (a b : Result RequestBody RecordFault) → Agrees a b → Agrees (handle_of a) (handle_of b)
handles_agree (Err OutOfMemory) b h = tt
handles_agree a (Err OutOfMemory) h = agrees_with_none (handle_of a)
handles_agree a b h = ap handle_of h

pub returns-clause-means : goal.returns-clause-means
returns-clause-means c = (
  answer_of c.args.octets.now (request_at c.args.octets.now),
  answer_means request_limited c.args.octets.now (λ i. omega (arith, c.type_inv.octets i)),
  c.request_answer.ensures,
)

pub returns-clause-only : goal.returns-clause-only
returns-clause-only c = λ other m.
    let answer = answer_of c.args.octets.now (request_at c.args.octets.now) in
    subst (λ (r : Result (List ℕ) RecordFault). Agrees r (handle_of other)) (sym c.request_answer.ensures)
    (handles_agree answer other (means_answer request_limited c.args.octets.now other m))
