use Rattle.std.proofs.Common.{◌∙◌}
use Rattle.hsp_tables.proofs.Lookups.{server_found}
use Rattle.hsp_tables.proofs.capacity.Capacities.find.Goals as goal

pub returns-in_err-capacity : goal.returns-in_err-capacity
returns-in_err-capacity c =
    rw (c.from_residual.ensures, ← c.self.view_is)
    (c.in_err-capacity.ensures.value ∙ server_found c.args.site.now c.args.server_id c.self.inside.rows.entries)

pub returns : goal.returns
returns c =
    rw (← c.self.view_is)
    (c.in_ok-capacity.ensures.value ∙ server_found c.args.site.now c.args.server_id c.self.inside.rows.entries)
