use Rattle.std.proofs.Common.{None, length, inl, inr, arith}
use Rattle.std.proofs.lemmas.Bool.{cases_lt}
use Rattle.std.proofs.lemmas.List.{get_or_past}
use Rattle.hsp_network.proofs.scan.ScanFrontierFrontier.take_least.Goals as goal

pub returns-in-Some-least-clause-least : goal.returns-in-Some-least-clause-least
returns-in-Some-least-clause-least c =
    let found = rw c.in-Some-least.is at c.loop-node.invariant.2 in
    rw c.in-Some-least.is (record {
      there = found.1;
      none_below = λ v d h. elim (cases_lt v (length c.args.self.now.keys.items)) [
        | inl l ↦ found.2 v d (omega (arith, c.args.self.now.keys.ok.0, c.len-node-end.ensures)) h
        | inr past ↦ absurd (let p = get_or_past c.args.self.now.keys.items v None past in cc)
      ];
    })
