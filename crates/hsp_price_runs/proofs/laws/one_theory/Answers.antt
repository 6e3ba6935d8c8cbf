use Rattle.hsp_price_runs.proofs.OneTheory.{rows_have_their_arcs, table_has_its_network}
use Rattle.hsp_price_runs.proofs.laws.one_theory.Goals as goal

pub returns : goal.returns
returns c =
    let handles = c.readings_are_handles.ensures in
    record { network = table_has_its_network handles; arcs = rows_have_their_arcs handles }
