use Rattle.std.proofs.Common.{◌≡◌, ◌≤◌, ◌+◌, ◌-◌, ℕ, List, Option, length, drop, take, arith, length-drop}
use Rattle.std.proofs.KnownBytes.{Appends-kept, Appends-trans}
use Rattle.std.specs.Io.KnownBytes.{Appends}
use Rattle.std.proofs.Math.Seq.{take-add}
use Rattle.std.proofs.lemmas.List.{take_all}
use Rattle.hsp_talk.proofs.sink.write_whole.Goals.{in-Ok, in-Err+else-ne}
use Rattle.hsp_talk.proofs.sink.write_whole.Goals as goal

-- the octets from a place on
from_place : (at : ℕ) (octets : List ℕ) → take (length octets - at) (drop at octets) ≡ drop at octets
from_place at octets = take_all (length octets - at) (drop at octets) (omega (arith, length-drop at octets))

longer : (a b c : Option (List ℕ)) (octets : List ℕ) (at count : ℕ) → Appends a b (take at octets)
    → Appends b c (take count (take (length octets - at) (drop at octets))) →
    Appends a c (take (at + count) octets)
longer a b c octets at count f g =
    rw (take-add at count octets)
    (Appends-trans a b c (take at octets) (take count (drop at octets)) f (rw (from_place at octets) at g))

fits : (octets : List ℕ) (at count : ℕ) → at ≤ length octets
    → count ≤ length (take (length octets - at) (drop at octets)) → at + count ≤ length octets
fits octets at count h k = let left = rw (from_place at octets) at k in omega (arith, length-drop at octets, left)

pub loop-again-preserved : goal.loop-again-preserved
loop-again-preserved g c =
    let before = c.loop-again.invariant in
    elim c.match-write.branch [
      | in-Ok w ↦
          let wrote = w.in-Ok.ensures in
          record {
            within = rw w.at-is (fits c.args.octets.now c.loop-again.at w.in-Ok.count before.within wrote.bound);
            written =
                rw w.at-is (longer _ _ _ c.args.octets.now c.loop-again.at w.in-Ok.count before.written wrote.bytes);
          }
      | in-Err+else-ne w ↦ record {
        within = rw w.at-is before.within;
        written =
            rw w.at-is
            (Appends-kept _ _ _ (take c.loop-again.at c.args.octets.now) before.written w.in-Err.ensures.bytes);
      }
    ]
