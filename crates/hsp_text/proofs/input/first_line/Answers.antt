use Rattle.std.proofs.Common.{◌≡◌, length, length-append, arith, rules, refl}
use Rattle.std.proofs.KnownBytes.{Consumes-nil, Consumes-trans}
use Rattle.hsp_text.proofs.Consuming.{line_ends, line_feeds, one_octet, unbroken_more}
use Rattle.hsp_text.proofs.input.first_line.Goals as goal
use Rattle.hsp_text.proofs.input.first_line.Goals.{then-count-eq0-via-then-count-eq0}
use Rattle.hsp_text.proofs.input.first_line.Goals.{then-count-eq0-via-else-count-eq0+then-octet-eq10}

pub octets-init : goal.octets-init
octets-init g c = record {
  within = rw c.new-line.ensures.items (omega arith);
  unbroken = rw c.new-line.ensures.items refl;
  read = rw c.new-line.ensures.items (Consumes-nil _);
}

pub returns-then-count-eq0-clause-line : goal.returns-then-count-eq0-clause-line
returns-then-count-eq0-clause-line g c =
    let i = c.octets.invariant in
    let e = c.in-Ok.ensures.bytes in
    let one : length c.read.new.buf ≡ 1 = search rules in
    elim c.then-count-eq0.branch [
      | then-count-eq0-via-then-count-eq0 w ↦
          line_ends _ _ _ _ i.unbroken i.read (rw w.if-count-eq0.true at e.0) (e.1 w.if-count-eq0.true (omega arith))
      | then-count-eq0-via-else-count-eq0+then-octet-eq10 w ↦
          line_feeds _ _ _ _ _ i.unbroken w.if-octet-eq10.true i.read
          (rw (one_octet c.in-Ok.count c.read.new.buf one w.if-count-eq0.false c.in-Ok.ensures.bound.0) at e.0)
    ]

pub octets-preserved : goal.octets-preserved
octets-preserved g c =
    let i = c.octets.invariant in
    let e = c.in-Ok.ensures.bytes in
    let one : length c.read.new.buf ≡ 1 = search rules in
    let whole = c.in_ok-push.ensures.items in
    let len = c.in_ok-push.ensures.len in
    record {
      within = rw whole (simp length-append (omega arith));
      unbroken = rw whole (unbroken_more c.octets.line.items _ i.unbroken c.if-octet-eq10.false);
      read =
          rw whole
          (Consumes-trans _ _ _ _ _ i.read
          (rw (one_octet c.in-Ok.count c.read.new.buf one c.if-count-eq0.false c.in-Ok.ensures.bound.0) at e.0));
    }
