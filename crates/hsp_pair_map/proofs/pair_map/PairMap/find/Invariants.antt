use Rattle.hsp_pair_map.specs.Held.{AreHeld}
use Rattle.hsp_pair_map.proofs.Finding.{IsSearched}
use Rattle.hsp_pair_map.proofs.pair_map.PairMap.find.Given as goal

abbrev pub invariant-chain : goal.invariant-chain
invariant-chain l =
    let map = l.self-inside in
    (held : AreHeld map.octets.items map.entries.items map.lasts.items map.rest.entries)
    → IsSearched map.octets.items map.entries.items held.bucket (record { first = l.first; second = l.second })
    l.bucket l.number

abbrev pub decreases-chain : goal.decreases-chain
decreases-chain l = l.number
