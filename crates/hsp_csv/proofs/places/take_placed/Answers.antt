use Rattle.std.proofs.Common.{◌∙◌, sym}
use Rattle.hsp_csv.specs.Walks.{shown, walk_of}
use Rattle.hsp_csv.proofs.Walking.{leads_on, takes_ended, takes_last}
use Rattle.hsp_csv.proofs.places.take_placed.Goals as goal

pub returns-in_default : goal.returns-in_default
returns-in_default g c =
    let walk = walk_of c.octets.reader.walk (shown c.octets.placed) in
    rw c.in_ok-found.ensures.octets
    (takes_last _ _ _ _ _ walk _ _ c.octets.invariant.leads (rw c.in_default.is at c.in_ok-octet.ensures)
    c.in_ok-found.ensures.ends)

pub returns-in-Ok-true : goal.returns-in-Ok-true
returns-in-Ok-true g c =
    let walk = walk_of c.octets.reader.walk (shown c.octets.placed) in
    let ends = sym c.in-Ok-true.ensures.ends ∙ c.in-Ok-true.field-0-test in
    takes_ended _ _ _ _ _ walk (walk_of c.take.new.self (shown c.take.new.placed)) c.in-Some.octet
    c.octets.invariant.leads (rw c.in-Some.is at c.in_ok-octet.ensures) ends c.in-Ok-true.ensures.walk

pub octets-preserved : goal.octets-preserved
octets-preserved g c =
    let walk = walk_of c.octets.reader.walk (shown c.octets.placed) in
    record {
      partial = c.in-Ok-false.ensures.partial;
      leads =
          rw c.in-Ok-false.ensures.walk
          (leads_on _ _ _ _ walk c.in-Some.octet c.octets.invariant.leads (rw c.in-Some.is at c.in_ok-octet.ensures)
          (sym c.in-Ok-false.ensures.ends ∙ c.in-Ok-false.field-0-test));
    }
