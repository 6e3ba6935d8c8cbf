use Rattle.std.proofs.lemmas.Result.{on_ok_weaker}
use Rattle.hsp_runs.proofs.site.push_counts.Goals as goal
use Rattle.hsp_text.proofs.Lists.{three_pieces}

pub returns : goal.returns
returns c =
    let filter = rw c.filter.ensures at c.in_ok-push_filter.ensures in
    let attributes = rw c.attribute_count.ensures at c.in_ok-push_counted.ensures in
    on_ok_weaker c.push_counted-2.result
    (λ servers. three_pieces _ _ _ _ _ _ _ filter attributes (rw c.server_count.ensures.count at servers))
    c.push_counted-2.ensures
