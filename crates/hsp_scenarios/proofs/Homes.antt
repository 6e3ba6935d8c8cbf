-- One portion: what it sends home and elsewhere, over all sites.
use Rattle.std.proofs.Common.{◌≡◌, ℕ, ◌+◌, ◌-◌, ◌<◌, ◌≤◌, ◌==◌, ◌∙◌, Bool, true, false, Option, Some, None, refl}
use Rattle.std.proofs.Common.{arith}
use Rattle.std.specs.Prelude.{not}
use Rattle.hsp_transport.specs.Sums.{sum_below}
use Rattle.hsp_transport.proofs.Rowwise.{when, when_here, when_there}
use Rattle.hsp_transport.proofs.Spreading.{part_below}
use Rattle.hsp_transport.proofs.Summing.{sum_below_add, sum_below_le, sum_below_one, sum_below_same, sum_below_zero}
use Rattle.hsp_scenarios.specs.Portions.{is_away, is_home}

-- what is at a place, and what is not
both : (t : Bool) (v : ℕ) → when t v + when (not t) v ≡ v
both true v = omega arith
both false v = omega arith

-- one site is home
one_home : (sites h v : ℕ) → h < sites → sum_below sites (λ s. when (s == h) v) ≡ v
one_home sites h v l =
    sum_below_one sites (λ s. when (s == h) v) h l (λ s m ne. when_there s h v ne) ∙ when_here h v

-- what a portion has at home is no more than it is
pub home_within : (sites : ℕ) (home : Option ℕ) → ((h : ℕ) → home ≡ Some h → h < sites) → (d : ℕ)
    → sum_below sites (λ s. when (is_home home s) d) ≤ d
home_within sites None inside d = omega (arith, sum_below_zero sites (λ s. 0) (λ s l. refl))
home_within sites (Some h) inside d = omega (arith, one_home sites h d (inside h refl))

-- what is missing at home is away
pub missing_away : (sites : ℕ) (home : Option ℕ) → ((h : ℕ) → home ≡ Some h → h < sites) → (d : ℕ) (y : ℕ → ℕ)
    → sum_below sites y ≡ d
    → sum_below sites (λ s. when (is_home home s) d - y s) ≤ sum_below sites (λ s. when (is_away home s) (y s))
missing_away sites None inside d y all = sum_below_le sites _ _ (λ s l. omega arith)
missing_away sites (Some h) inside d y all =
    let missing = λ (s : ℕ). when (s == h) d - y s in
    let here = λ (s : ℕ). when (s == h) (y s) in
    let there = λ (s : ℕ). when (not (s == h)) (y s) in
    let first : sum_below sites (λ s. missing s + here s) ≡ sum_below sites (λ s. when (s == h) d) =
    sum_below_same sites _ _ (λ s l. up (s == h) (y s) (omega (arith, part_below sites s y l))) in
    let second : sum_below sites (λ s. here s + there s) ≡ sum_below sites y =
    sum_below_same sites _ _ (λ s l. both (s == h) (y s)) in
    omega (
      arith,
      first,
      second,
      one_home sites h d (inside h refl),
      sum_below_add sites missing here,
      sum_below_add sites here there,
    )
  where
    up : (t : Bool) (v : ℕ) → v ≤ d → (when t d - v) + when t v ≡ when t d
    up true v l = omega arith
    up false v l = omega arith

-- where what is at home is what is kept, the rest of a portion with a home is away
pub rest_away : (sites : ℕ) (home : Option ℕ) → ((h : ℕ) → home ≡ Some h → h < sites) → (d : ℕ) (y kept : ℕ → ℕ)
    → sum_below sites y ≡ d → ((s : ℕ) → s < sites → kept s ≡ when (is_home home s) (y s)) →
    sum_below sites kept + sum_below sites (λ s. when (is_away home s) (y s))
    ≡ sum_below sites (λ s. when (is_home home s) d)
rest_away sites None inside d y kept all is = omega (arith, sum_below_zero sites kept is)
rest_away sites (Some h) inside d y kept all is =
    let there = λ (s : ℕ). when (not (s == h)) (y s) in
    let sums : sum_below sites (λ s. kept s + there s) ≡ sum_below sites y =
    sum_below_same sites _ _ (λ s l. omega (arith, is s l, both (s == h) (y s))) in
    omega (arith, sums, one_home sites h d (inside h refl), sum_below_add sites kept there)
