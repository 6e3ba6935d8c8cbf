use Rattle.std.proofs.Common.{◌≡◌, ◌<◌, ◌∙◌, length, slice_index, ap, ap₂, arith}
use Rattle.std.proofs.lemmas.Grind.{get_or_default_zero}
use Rattle.std.proofs.lemmas.List.{length-map}
use Rattle.hsp_instance.specs.Instance.{Server}
use Rattle.hsp_check.specs.Instance.{network_of}
use Rattle.hsp_check.specs.Plan.{load}
use Rattle.hsp_check.specs.Uses.{table}
use Rattle.hsp_report.specs.LoadReport.{load_line, server_line}
use Rattle.hsp_report.proofs.Pieces.{line_more}
use Rattle.hsp_report.proofs.loads.push_loads.Goals as goal

pub loop-server-preserved : goal.loop-server-preserved
loop-server-preserved c =
    let it = c.args.instance.now in
    let j = c.loop-server.server in
    let many : length (network_of it).capacities ≡ length it.servers =
    length-map it.servers (λ (s : Server). s.capacity) in
    let inside : j < length (network_of it).capacities = omega arith in
    let listed : j < length c.args.loads.now.servers.items = let same = c.requires.loads.servers_many in omega arith in
    let taken : c.index.result.now ≡ load (network_of it) (table c.args.plan.now.uses) j =
    c.index.ensures ∙ get_or_default_zero c.args.loads.now.servers.items j c.index.result.now listed
    ∙ c.requires.loads.servers_are j inside in
    line_more (load_line it c.args.plan.now) c.args.out.now.items c.loop-server.out.items _ _ j c.loop-server.invariant
    (ap₂ (λ taken price. server_line it j taken price) taken
    (ap (λ ps. slice_index ps j) c.server_prices-prices.ensures)) c.in_ok-push_server.ensures
