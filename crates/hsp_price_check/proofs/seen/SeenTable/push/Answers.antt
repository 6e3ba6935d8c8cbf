use Rattle.std.proofs.Common.{arith}
use Rattle.std.proofs.lemmas.List.{length_push}
use Rattle.hsp_pair_map.specs.Pairs.{Pair}
use Rattle.hsp_price_check.proofs.SeenMaps.{apart_more, seen_length, seen_more, unseen}
use Rattle.hsp_price_check.proofs.seen.SeenTable.push.Goals as goal

pub push-requires : goal.push-requires
push-requires c =
    let t = c.self.inside in
    omega (
      arith,
      seen_length t.pairs t.numbers.items c.self.invariant.0,
      c.self.invariant.0,
      (rw (← c.self.view_is) at c.requires.few),
    )

pub invariant_of-self-2 : goal.invariant_of-self-2
invariant_of-self-2 c =
    let t = c.self.inside in
    let names : Pair = record { first = c.args.region.now; second = c.args.handle.now } in
    rw (c.in_ok-push.ensures.added, c.in_ok-push-2.ensures.items, c.in_ok-reserve.ensures.items) (
      omega (arith, length_push t.pairs names, length_push t.numbers.items c.args.number, c.self.invariant.0),
      apart_more t.pairs names c.self.invariant.1
          (unseen c.args.region.now c.args.handle.now t.pairs t.numbers.items c.self.invariant.0 c.self.invariant.1
          (rw (← c.self.view_is) at c.requires.new)),
    )

pub returns-clause-added : goal.returns-clause-added
returns-clause-added c =
    let t = c.self.inside in
    rw (c.in_ok-push.ensures.added, c.in_ok-push-2.ensures.items, c.in_ok-reserve.ensures.items, ← c.self.view_is)
    (seen_more t.pairs t.numbers.items _ c.args.number c.self.invariant.0)
