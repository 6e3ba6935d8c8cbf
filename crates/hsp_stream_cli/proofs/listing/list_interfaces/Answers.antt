use Rattle.std.proofs.Common.{inr}
use Rattle.hsp_stream_cli.proofs.listing.list_interfaces.Goals as goal

pub returns-clause-lists : goal.returns-clause-lists
returns-clause-lists g c =
    inr (c.in_ok-sources.sources, c.in_ok-sources.ensures.held, c.print_interfaces.ensures.prints)
