use Rattle.std.proofs.Common.{arith}
use Rattle.hsp_transport.specs.Lists.{flag_at}
use Rattle.hsp_prices.specs.KeptRows.{with_leaving}
use Rattle.hsp_price_plan.proofs.StillRows.{leaving_leaves}
use Rattle.hsp_price_plan.proofs.Kept.{within_many}
use Rattle.hsp_plan_tests.proofs.Fillings.{still_some}
use Rattle.hsp_plan_tests.proofs.keeping.keep_leaving.Goals as goal

pub keep_leaving-requires : goal.keep_leaving-requires
keep_leaving-requires g c =
    within_many c.args.filled.now.numbers c.args.filled.now.rows.rows c.requires (omega arith)

pub returns : goal.returns
returns g c =
    still_some (with_leaving (flag_at c.args.set.now))
    (leaving_leaves (flag_at c.args.set.now))
    c.args.filled.now.numbers c.args.filled.now.rows c.keep_leaving.new.self c.keep_leaving.ensures.kept c.requires
