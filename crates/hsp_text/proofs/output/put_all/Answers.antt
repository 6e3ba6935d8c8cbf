use Rattle.std.proofs.Common.{◌≡◌, ◌≤◌, ◌+◌, ◌-◌, ◌∙◌, ◌++◌, ℕ, List, Option, None, Some, length, drop, take, ap}
use Rattle.std.proofs.Common.{append_assoc, arith, length-drop}
use Rattle.std.specs.Io.KnownBytes.{Appends}
use Rattle.std.proofs.Math.Seq.{take-add}
use Rattle.std.proofs.lemmas.List.{take_all}
use Rattle.hsp_text.proofs.output.put_all.Goals as goal

-- what is appended in two steps
appends-twice : (a b c : Option (List ℕ)) (xs ys : List ℕ) → Appends a b xs → Appends b c ys → Appends a c (xs ++ ys)
appends-twice None b c xs ys f g = tt
appends-twice (Some x) None c xs ys f g = absurd f
appends-twice (Some x) (Some y) None xs ys f g = absurd g
appends-twice (Some x) (Some y) (Some z) xs ys f g = g ∙ ap (λ (t : List ℕ). t ++ ys) f ∙ append_assoc x xs ys

-- a beginning, and a beginning of what is left
longer : (a b c : Option (List ℕ)) (text : List ℕ) (at count : ℕ) → Appends a b (take at text)
    → Appends b c (take count (take (length text - at) (drop at text))) →
    Appends a c (take (at + count) text)
longer a b c text at count f g =
    let rest : take (length text - at) (drop at text) ≡ drop at text =
    take_all (length text - at) (drop at text) (omega (arith, length-drop at text)) in
    rw (take-add at count text) (appends-twice a b c (take at text) (take count (drop at text)) f (rw rest at g))

fits : (text : List ℕ) (at count : ℕ) → at ≤ length text → count ≤ length (take (length text - at) (drop at text))
    → at + count ≤ length text
fits text at count h k =
    let rest : take (length text - at) (drop at text) ≡ drop at text =
    take_all (length text - at) (drop at text) (omega (arith, length-drop at text)) in
    let left = rw rest at k in
    omega (arith, length-drop at text, left)

pub loop-at-preserved : goal.loop-at-preserved
loop-at-preserved g c =
    let wrote = c.in-Ok.ensures in
    let before = c.loop-at.invariant in
    record {
      within = fits c.args.text.now c.loop-at.at c.in-Ok.count before.within wrote.bound;
      taken = longer _ _ _ c.args.text.now c.loop-at.at c.in-Ok.count before.taken wrote.bytes;
    }
