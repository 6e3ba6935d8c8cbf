use Rattle.std.proofs.Common.{◌∙◌, ◌++◌, ap, decimal}
use Rattle.hsp_stream.proofs.PlacePrinting.{line_pieces}
use Rattle.hsp_stream.proofs.place_lines.push_line.Goals as goal

pub returns : goal.returns
returns c =
    line_pieces c.args.out.now.items _ _ _ _ c.push_field.new.out.items c.push.new.self.items
    c.push_field-2.new.out.items c.push-2.new.self.items c.push_whole.new.out.items c.push-3.new.self.items
    c.push_whole-2.new.out.items c.push-4.new.self.items c.in_ok-push_field.ensures c.in_ok-push.ensures.items
    c.in_ok-push_field-2.ensures c.in_ok-push-2.ensures.items
    (c.in_ok-push_whole.ensures.digits ∙ ap (λ n. c.push-2.new.self.items ++ decimal n) c.from.ensures)
    c.in_ok-push-3.ensures.items
    (c.in_ok-push_whole-2.ensures.digits ∙ ap (λ n. c.push-3.new.self.items ++ decimal n) c.from-2.ensures)
    c.in_ok-push-4.ensures.items
