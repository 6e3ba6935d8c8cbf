use Rattle.hsp_dispatch.specs.Shares.{left_of}
use Rattle.hsp_dispatch.proofs.Desks.{no_entries}
use Rattle.hsp_dispatch.proofs.entries.DispatcherDesk.served.Goals as goal

pub returns-clause-begins : goal.returns-clause-begins
returns-clause-begins c = no_entries c.args.self.now.instance (left_of c.args.self.now)
