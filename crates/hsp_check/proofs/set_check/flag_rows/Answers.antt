use Rattle.std.proofs.Common.{rules}
use Rattle.hsp_check.proofs.set_check.flag_rows.Goals as goal

pub returns-then-row-flags-clause-there : goal.returns-then-row-flags-clause-there
returns-then-row-flags-clause-there c = search rules

pub returns-then-row-flags-clause-flags : goal.returns-then-row-flags-clause-flags
returns-then-row-flags-clause-flags c = search rules
