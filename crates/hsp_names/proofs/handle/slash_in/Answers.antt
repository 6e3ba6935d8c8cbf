use Rattle.hsp_names.proofs.Splitting.{slash_shown}
use Rattle.hsp_names.proofs.handle.slash_in.Goals as goal

pub returns-clause-none : goal.returns-clause-none
returns-clause-none c = (slash_shown c.args.octets.now c.first_slash.result c.first_slash.ensures).0

pub returns-clause-some : goal.returns-clause-some
returns-clause-some c = (slash_shown c.args.octets.now c.first_slash.result c.first_slash.ensures).1

pub returns-clause-place : goal.returns-clause-place
returns-clause-place c = (slash_shown c.args.octets.now c.first_slash.result c.first_slash.ensures).2
