use Rattle.std.proofs.Common.{option_map}
use Rattle.hsp_stream.proofs.InterfaceSpelled.{they_have}
use Rattle.hsp_stream.proofs.interfaces.interfaces_run.Goals as goal

pub table_of-requires : goal.table_of-requires
table_of-requires c =
    they_have c.in_ok-settings.settings (option_map (λ v. v.now) c.as_ref-values.result) c.in_ok-_sites._sites
    c.in_ok-_sites.ensures
