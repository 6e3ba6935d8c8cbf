use Rattle.std.proofs.Common.{inr}
use Rattle.hsp_stream_cli.proofs.Lent.{talks_weaker}
use Rattle.hsp_stream_cli.proofs.placing.state_places.Goals as goal

pub returns-clause-states : goal.returns-clause-states
returns-clause-states g c =
    inr (
      c.in_ok-sources.sources,
      _,
      c.in_ok-sources.ensures.held,
      c.in_ok-log.ensures.held,
      talks_weaker _ _ _ _ _ _ _ _ c.in_ok-log.ensures.reads c.talk_over.ensures.talks,
    )
