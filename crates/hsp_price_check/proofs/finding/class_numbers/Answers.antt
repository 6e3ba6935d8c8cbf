use Rattle.std.proofs.Common.{◌≡◌, ◌∙◌, ap, get_or, subst}
use Rattle.hsp_price_text.specs.Claim.{Class}
use Rattle.hsp_price_check.specs.FirstRows.{HasAdded}
use Rattle.hsp_price_check.proofs.ClassPlaces.{one_class}
use Rattle.hsp_price_check.proofs.finding.class_numbers.Goals as goal

pub loop-number-preserved : goal.loop-number-preserved
loop-number-preserved c =
    let n = c.loop-number.number in
    let read = c.index-classes-number.result in
    let class = get_or c.args.classes.now n read in
    let old = c.loop-number.numbers.entries in
    let new = c.add_first.new.firsts.entries in
    let is = c.class.view_is ∙ c.index-classes-number.is in
    let region : c.deref.result.now ≡ class.region =
    c.deref.ensures.value ∙ ap (λ (k : Class). k.region) is in
    let servers : c.deref-in-loop-number.result.now ≡ class.servers =
    c.deref-in-loop-number.ensures.value ∙ ap (λ (k : Class). k.servers) is in
    one_class c.args.classes.now n read old new c.loop-number-test.true c.loop-number.invariant
    (subst (λ r. HasAdded old new r class.servers n) region
    (subst (λ s. HasAdded old new c.deref.result.now s n) servers c.in_ok-add_first.ensures))
