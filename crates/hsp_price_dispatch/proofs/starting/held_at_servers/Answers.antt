use Rattle.std.proofs.Common.{◌≡◌, ◌∙◌, ◌<◌, ◌+◌, arith, get_or, length, length-set, slice_index}
use Rattle.std.proofs.lemmas.List.{get_or_read}
use Rattle.hsp_price_check.specs.Passed.{capped}
use Rattle.hsp_price_dispatch.specs.Holding.{no_cell}
use Rattle.hsp_price_dispatch.proofs.Starts.{held_more}
use Rattle.hsp_price_dispatch.proofs.starting.held_at_servers.Goals as goal

pub loop-cell-preserved : goal.loop-cell-preserved
loop-cell-preserved c =
    let held = c.loop-cell.held.items in
    let cells = c.args.cells.now in
    let i = c.loop-cell.cell-index in
    let cell = get_or cells i no_cell in
    let there : cell.server < length held =
    omega (arith, c.requires i no_cell c.loop-cell-test.true, c.loop-cell.invariant.many) in
    let is : c.saturating_add.result ≡ capped (slice_index held cell.server + cell.left) =
    omega (
      arith,
      c.saturating_add.ensures,
      c.from.ensures,
      get_or_read held cell.server c.index.result.now there c.index.ensures 0,
    ) in
    record {
      many = length-set held cell.server c.saturating_add.result ∙ c.loop-cell.invariant.many;
      each = λ j l.
          held_more held cells i c.saturating_add.result j no_cell c.loop-cell-test.true there is
          (c.loop-cell.invariant.each j l);
    }
