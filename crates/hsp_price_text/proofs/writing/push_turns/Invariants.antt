use Rattle.std.proofs.Common.{◌≡◌, ◌++◌}
use Rattle.hsp_price_text.specs.Text.{in_turn, spaced}
use Rattle.hsp_price_text.proofs.writing.push_turns.Given as goal

abbrev pub invariant-loop-server : goal.invariant-loop-server
invariant-loop-server l =
    l.out.items ++ spaced (in_turn l.server-iterator.a.rest.now l.server-iterator.b.rest.now)
    ≡ l.fn.out.items ++ spaced (in_turn l.servers l.amounts)
