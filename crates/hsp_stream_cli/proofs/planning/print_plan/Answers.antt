use Rattle.std.proofs.Common.{inl}
use Rattle.hsp_stream_cli.proofs.planning.print_plan.Goals as goal

pub returns-in-Ok-clause-prints : goal.returns-in-Ok-clause-prints
returns-in-Ok-clause-prints g c = inl (c.in-Ok.text, c.in-Ok.ensures.shows, c.print_text.ensures.prints)
