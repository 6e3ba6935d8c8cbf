use Rattle.std.proofs.Common.{◌∙◌, ◌++◌, inl, inr, ap, sym, append-nil}
use Rattle.hsp_price_text.specs.Text.{spaced}
use Rattle.hsp_price_text.proofs.Appended.{none_left}
use Rattle.hsp_price_text.proofs.writing.push_turns.Goals as goal

pub returns : goal.returns
returns c =
    sym (append-nil c.loop-server.out.items)
    ∙ ap (λ l. c.loop-server.out.items ++ spaced l)
    (sym (none_left c.loop-server.server-iterator.a.rest.now c.loop-server.server-iterator.b.rest.now
    (elim c.in-None.ensures.steps [ inl (x, (none, same)) ↦ inl none | inr (x, (none, same)) ↦ inr none ])))
    ∙ c.loop-server.invariant
