-- What is written to the two lists are the lists with the row added.
use Rattle.std.proofs.Common.{◌∙◌, refl}
use Rattle.std.proofs.lemmas.List.{with_items_is}
use Rattle.hsp_price_check.proofs.sums.PassSums.add_to_class.Goals as goal

pub returns : goal.returns
returns c =
    let asked_long = c.add_at.ensures.many ∙ c.deref_mut.ensures.len in
    let seen_long = c.set_at.ensures.many ∙ c.deref_mut-2.ensures.len in
    record {
      loads = refl;
      cost = refl;
      asked =
          rw (with_items_is c.args.self.now.asked c.add_at.new.sums asked_long)
          (rw c.deref_mut.ensures.value at c.add_at.ensures);
      seen =
          rw (with_items_is c.args.self.now.seen c.set_at.new.flags seen_long)
          (rw c.deref_mut-2.ensures.value at c.set_at.ensures);
      placed = refl;
    }
