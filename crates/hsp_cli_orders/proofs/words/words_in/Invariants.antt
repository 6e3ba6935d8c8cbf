use Rattle.std.proofs.Common.{◌≡◌, map, string_bytes}
use Rattle.std.specs.Prelude.{filter}
use Rattle.hsp_cli_orders.specs.Words.{is_word}
use Rattle.hsp_cli_orders.proofs.words.words_in.Given as goal

abbrev pub invariant-loop-word : goal.invariant-loop-word
invariant-loop-word l = map string_bytes l.words.items ≡ filter is_word (map (λ word. word.now) l.yielded)
