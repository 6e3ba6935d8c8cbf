use Rattle.std.proofs.Common.{◌+◌, ◌-◌, ◌∙◌, ap, length, min}
use Rattle.hsp_talk.specs.declared.limits.TheConstants.{LONGEST_ROW}
use Rattle.hsp_talk.proofs.Rows.{cut_within}
use Rattle.hsp_talk.proofs.talking.lengthen.Goals as goal

pub returns : goal.returns
returns c =
    let line = c.args.line.now.items in
    let octets = c.args.octets.now in
    let least =
    c.min-count.ensures
    ∙ ap (λ n. min (length octets) (LONGEST_ROW + 1 - n)) (c.len.ensures ∙ c.args.line.now.ok.0) in
    c.in_ok-extend_from_slice.ensures.items ∙ cut_within line octets c.min-count.result c.requires least
