use Rattle.std.proofs.Common.{inr, option_map}
use Rattle.hsp_cli.proofs.commands.locate_sites.Goals as goal

pub returns : goal.returns
returns g c =
    inr (
      c.in_ok-settings.settings.items,
      option_map (λ v. v.items) c.in_ok-values.values,
      c.in_ok-settings.ensures.octets,
      c.in_ok-values.ensures.octets,
      rw c.as_bytes.ensures at c.locate_answer.ensures,
    )
