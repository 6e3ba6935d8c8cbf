use Rattle.std.proofs.Common.{◌∙◌}
use Rattle.hsp_tables.proofs.SeenNames.{name_among}
use Rattle.hsp_tables.proofs.keyed.Regions.has.Goals as goal

pub returns : goal.returns
returns c = rw (← c.self.view_is) (c.contains.ensures ∙ name_among c.args.region.now c.self.inside.names.keys)
