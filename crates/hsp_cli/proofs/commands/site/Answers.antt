use Rattle.std.proofs.Common.{inr}
use Rattle.hsp_cli.proofs.commands.site.Goals as goal

pub returns-in-Some : goal.returns-in-Some
returns-in-Some g c =
    let answered = rw c.deref.ensures.value at (rw c.as_bytes.ensures at c.site_answer.ensures) in
    rw c.in-Some.is (inr (c.in_ok-octets.octets.items, c.in_ok-octets.ensures.octets, answered))

pub returns : goal.returns
returns g c =
    rw c.in-None.is
    (inr (
      c.in_ok-octets.octets.items,
      c.in_ok-octets.ensures.octets,
      rw c.deref-in-None.ensures.value at c.site_answer-in-None.ensures,
    ))
