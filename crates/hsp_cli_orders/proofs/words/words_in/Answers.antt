use Rattle.std.proofs.Common.{◌∙◌, ap, lit<}
use Rattle.std.specs.Prelude.{filter}
use Rattle.std.specs.Str.Iter.{split_text, split_has_more, split_pattern}
use Rattle.std.proofs.lemmas.Iterator.Consumers.{YieldsList-end}
use Rattle.std.proofs.lemmas.Iterator.Splits.{YieldsList-from_str_split}
use Rattle.hsp_cli_orders.specs.Words.{is_word}
use Rattle.hsp_cli_orders.proofs.words.words_in.Goals as goal

pub returns : goal.returns
returns c =
    let split = c.split-word-items.ensures in
    let begun = c.into_iter-word-iterator.ensures.into_iter_gives in
    let pieces =
    YieldsList-from_str_split 32 c.args.text.now (lit< tt) (ap split_text begun ∙ split.text)
    (ap split_has_more begun ∙ split.has_more) (ap split_pattern begun ∙ split.pattern) in
    let all =
    YieldsList-end pieces c.loop-word.yielded _ c.loop-word.yielded_by _ _ c.in-None.is c.next.ensures.steps in
    c.loop-word.invariant ∙ ap (filter is_word) all.0
