use Rattle.std.proofs.Common.{◌≡◌, ◌∙◌, List, ap, length, sym}
use Rattle.std.proofs.lemmas.List.{length-map}
use Rattle.hsp_instance.specs.Instance.{Server}
use Rattle.hsp_log.specs.Lines.{lines_of, server_line}
use Rattle.hsp_price_answers.proofs.Lines.{all_long}
use Rattle.hsp_price_answers.proofs.dispatcher.PriceAnswers.new.Goals as goal

pub invariant_of-result : goal.invariant_of-result
invariant_of-result c =
    let it = c.args.instance.now in
    let lines : c.in_ok-lines.lines ≡ lines_of it = c.in_ok-lines.ensures in (
      ap length lines ∙ length-map it.servers (server_line it) ∙ ap (λ (s : List Server). length s) (sym c.requires),
      rw lines (all_long it),
    )
