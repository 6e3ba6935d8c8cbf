use Rattle.std.proofs.Common.{◌∙◌, sym}
use Rattle.hsp_price_check.proofs.SeenMaps.{seen_length}
use Rattle.hsp_price_check.proofs.seen.SeenRows.len.Goals as goal

pub returns-in-Some-clause-count : goal.returns-in-Some-clause-count
returns-in-Some-clause-count c =
    let t = c.table.inside in
    rw (← c.self.view_is, c.in-Some.is, ← c.table.view_is)
    (c.len.ensures ∙ t.numbers.ok.0 ∙ sym (seen_length t.pairs t.numbers.items c.table.invariant.0))
