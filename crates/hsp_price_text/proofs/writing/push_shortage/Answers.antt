use Rattle.hsp_price_text.proofs.Appended.{shortage_appended}
use Rattle.hsp_price_text.proofs.writing.push_shortage.Goals as goal

pub returns : goal.returns
returns c =
    shortage_appended c.args.set.now c.args.out.now.items _ _ _ _ _ c.in_ok-extend_from_slice.ensures.items
    (rw c.servers.ensures.servers at c.in_ok-push_servers.ensures)
    (rw c.demand.ensures at c.in_ok-push_numbered.ensures) (rw c.capacity.ensures at c.in_ok-push_numbered-2.ensures)
    c.in_ok-extend_from_slice-2.ensures.items
