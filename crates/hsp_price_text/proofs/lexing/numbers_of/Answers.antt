use Rattle.std.proofs.Common.{◌∙◌, ℕ, List, [], ◌∷◌, ◌++◌, Some, sym, ap, append-nil, option_map}
use Rattle.hsp_price_text.specs.Lines.{numbers_in}
use Rattle.hsp_price_text.proofs.Parts.{cut_shorter, none_here, numbers_after, numbers_before, one_more}
use Rattle.hsp_price_text.proofs.lexing.numbers_of.Goals as goal

pub returns-in_default : goal.returns-in_default
returns-in_default c =
    none_here c.args.text.now c.parts.numbers.items c.parts.left.now _ _ c.parts.invariant c.cut_at_space.ensures
    c.in_default.ensures

pub parts-smaller : goal.parts-smaller
parts-smaller c =
    cut_shorter c.parts.left.now c.cut_at_space.result.0.now c.in-Some-more.more.now
    (c.cut_at_space.ensures ∙ ap (λ o. (c.cut_at_space.result.0.now, option_map (λ r. r.now) o)) c.in-Some-more.is)

pub parts-preserved : goal.parts-preserved
parts-preserved c =
    one_more c.args.text.now c.parts.numbers.items c.parts.left.now _ _ c.parts.invariant c.cut_at_space.ensures
    c.in-Some.number c.in-Some.ensures
    ∙ ap
    (λ o. numbers_before (c.parts.numbers.items ++ c.in-Some.number ∷ []) (numbers_after (option_map (λ r. r.now) o)))
    c.in-Some-more.is
    ∙ ap (λ ns. numbers_before ns (numbers_in c.in-Some-more.more.now)) (sym c.in_ok-push.ensures.items)

pub returns : goal.returns
returns c =
    sym
    (one_more c.args.text.now c.parts.numbers.items c.parts.left.now _ _ c.parts.invariant c.cut_at_space.ensures
    c.in-Some.number c.in-Some.ensures
    ∙ ap
    (λ o. numbers_before (c.parts.numbers.items ++ c.in-Some.number ∷ []) (numbers_after (option_map (λ r. r.now) o)))
    c.in-None.is
    ∙ ap (λ (ns : List ℕ). Some ns) (append-nil (c.parts.numbers.items ++ c.in-Some.number ∷ [])
    ∙ sym c.in_ok-push.ensures.items))
