use Rattle.std.proofs.Common.{◌≡◌, ◌≤◌, ◌∙◌, length, ap, sym}
use Rattle.std.specs.Prelude.{filter}
use Rattle.std.specs.List.{range_with_len}
use Rattle.hsp_check.specs.declared.arc.NetworkArc.{NetworkArc}
use Rattle.hsp_check.specs.declared.sums.ArcFlow.{ArcFlow}
use Rattle.hsp_check.specs.Instance.{network_of}
use Rattle.hsp_check.specs.ArcFlows.{flag_at}
use Rattle.hsp_check.specs.Network.{Network}
use Rattle.hsp_check.specs.Short.{reached}
use Rattle.hsp_check.specs.Verdict.{is_one_of}
use Rattle.hsp_check.proofs.FlowSums.{all_of_map}
use Rattle.hsp_check.proofs.Reached.{flagged_reach}
use Rattle.hsp_check.proofs.Validity.{where_ok}
use Rattle.hsp_check.proofs.reaching.reached_servers.Goals as goal

pub with-lists-requires-clause-cheap : goal.with-lists-requires-clause-cheap
with-lists-requires-clause-cheap c =
    rw c.deref.ensures.value
    (all_of_map (λ (l : ArcFlow). l.arc) (λ (a : NetworkArc). a.cost ≤ 1000000)
    c.in_ok-network.network.arcs.arc_flows.items
    (rw (ap (λ (n : Network). n.arcs) c.in_ok-network.ensures.network) c.in_ok-network.ensures.cheap))

pub returns : goal.returns
returns c =
    let network = c.in_ok-network.ensures in
    let lists = c.with-lists.result in
    let network = (rw c.deref.ensures.value at c.with-lists.ensures.network) ∙ network.network in
    let rows = rw c.unwrap-rows.ensures at c.in_ok-flags_of.ensures.flags in
    let reach =
    flagged_reach lists c.unwrap-rows.result.items c.in_ok-servers.servers.items (is_one_of c.args.set.now.rows)
    (rw c.rows.ensures at rows)
    (sym c.in_ok-servers.servers.ok.0 ∙ c.in_ok-servers.ensures.len)
    (rw c.deref-2.ensures.value at c.in_ok-servers.ensures.reached) in
    let found : filter (flag_at c.deref-3.result.now) (range_with_len 0 (length c.deref-3.result.now))
    ≡ reached (network_of c.args.instance.now) (is_one_of c.args.set.now.rows) =
    rw c.deref-3.ensures.value (reach ∙ ap (λ n. reached n (is_one_of c.args.set.now.rows)) network) in
    where_ok _ _ c.flagged.result (λ _ is. is ∙ found) c.flagged.ensures
