use Rattle.hsp_report.proofs.ShortSets.{reached_there, shortage_appended}
use Rattle.hsp_report.proofs.shortages.shortage_text.Goals as goal

pub push_servers-requires-clause-servers : goal.push_servers-requires-clause-servers
push_servers-requires-clause-servers c =
    rw c.deref.ensures.value (reached_there c.args.instance.now c.args.set.now _ c.in_ok-servers.ensures)

pub returns : goal.returns
returns c =
    shortage_appended c.args.instance.now c.args.set.now _ _ _ _ _ _ _ _ _ _ c.requires c.new-text.ensures.items
    c.demand.ensures c.capacity.ensures c.rows.ensures c.in_ok-servers.ensures
    c.in_ok-push_short.ensures c.in_ok-extend_from_slice.ensures.items c.in_ok-push_rows.ensures
    c.in_ok-extend_from_slice-2.ensures.items (rw c.deref.ensures.value at c.in_ok-push_servers.ensures)
