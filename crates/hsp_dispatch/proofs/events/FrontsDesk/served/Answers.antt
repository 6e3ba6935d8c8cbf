use Rattle.hsp_dispatch.proofs.Desks.{no_events}
use Rattle.hsp_dispatch.proofs.events.FrontsDesk.served.Goals as goal

pub returns-clause-begins : goal.returns-clause-begins
returns-clause-begins c = no_events c.args.self.now
