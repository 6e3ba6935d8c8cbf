use Rattle.std.proofs.Common.{◌∙◌, refl}
use Rattle.hsp_tables.specs.Demand.{is_demand}
use Rattle.hsp_tables.proofs.Lookups.{place_found}
use Rattle.hsp_instance.specs.Building.{row_of}
use Rattle.hsp_instance.specs.Instance.{has_keys}
use Rattle.hsp_instance.proofs.instance.Instance.find_row.Goals as goal

pub returns : goal.returns
returns c =
    rw (← c.self.view_is)
    (c.find.ensures
    ∙ place_found (is_demand c.args.region.now c.args.handle.now) (has_keys c.args.region.now c.args.handle.now)
    row_of (λ row. refl) c.self.inside.demand)
