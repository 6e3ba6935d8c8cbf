-- The shares of fronts in a number.
use Rattle.std.proofs.Common.{◌≡◌, ◌<◌, ◌≤◌, ◌+◌, ◌*◌, ◌/◌, ◌%◌, ℕ, zero, suc, if◌then◌else◌, arith, refl}
use Rattle.std.specs.Prelude.{min, nat_lt}
use Rattle.std.proofs.lemmas.Bool.{le-ltb}
use Rattle.std.proofs.Math.Nat.{div-add-mod, mod-lt, zero-div, zero-mod}
use Rattle.hsp_transport.specs.Sums.{sum_below}
use Rattle.hsp_log.specs.FrontShares.{share}

-- a product with a factor above 0
at_least : (fronts q : ℕ) → 0 < fronts → q ≤ fronts * q
at_least zero q some = absurd (omega (arith, some))
at_least (suc fronts) q some = omega arith

-- no front has more than the whole
pub share_le : (fronts front number : ℕ) → 0 < fronts → share fronts front number ≤ number
share_le fronts front number some = grind (arith, div-add-mod number fronts, at_least fronts (number / fronts) some)

-- of nothing each front has nothing
pub share_none : (fronts front : ℕ) → share fronts front 0 ≡ 0
share_none fronts front =
    let rest : 0 % fronts ≡ 0 = zero-mod fronts in
    let none : 0 / fronts ≡ 0 = zero-div fronts in
    rw (rest, none, le-ltb front 0 (omega arith)) refl

-- as many fronts as there are in the remainder have one more each
sums : (q r many : ℕ) → sum_below many (λ front. q + (if nat_lt front r then 1 else 0)) ≡ many * q + min many r
sums q r zero = omega arith
sums q r (suc many) = grind (arith, sums q r many)

-- the shares of all fronts add up to the number
pub shares_add_up : (fronts number : ℕ) → 0 < fronts → sum_below fronts (λ front. share fronts front number) ≡ number
shares_add_up fronts number some =
    let rest : number % fronts < fronts = mod-lt number some in
    omega (arith, sums (number / fronts) (number % fronts) fronts, div-add-mod number fronts, rest)
