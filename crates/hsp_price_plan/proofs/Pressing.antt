-- Numbers that are pressed together, and the prices of a flow.
use Rattle.std.proofs.Common.{◌≡◌, ◌≤◌, ◌<◌, ◌+◌, ◌-◌, ◌*◌, ◌⊎◌, ℕ, zero, suc, inl, inr, List, [], ◌∷◌, length}
use Rattle.std.proofs.Common.{arith, refl, slice_index}
use Rattle.std.specs.List.Sorted.{IsNonDecreasing}
use Rattle.std.proofs.lemmas.Bool.{cases_lt}
use Rattle.hsp_price_plan.specs.Pressing.{IsPressed, pressed_behind, pressed_from}
use Rattle.hsp_price_plan.specs.declared.press.TheConstants.{LONGEST_STEP}

-- ---- one number behind another

-- a number and one that is no less are pressed to these: the difference doesn't rise, and stays unless it is above the
-- longest step
pub record IsStep (x w y z : ℕ) : Type 0 where
  pub up : w ≤ z
  pub less : z + x ≤ w + y
  pub same : (z + x ≡ w + y) ⊎ (w + LONGEST_STEP ≤ z)

-- a number is none behind itself
no_step : (x w : ℕ) → IsStep x w x w
no_step x w = record { up = omega arith; less = omega arith; same = inl refl }

-- one step
one_step : (last low n : ℕ) → last ≤ n → IsStep last low n (pressed_behind last low n)
one_step last low n le = elim (cases_lt LONGEST_STEP (n - last)) [
  | inl longer ↦ record { up = omega arith; less = omega (arith, le, longer); same = inr (omega (arith, longer)) }
  | inr short ↦ record { up = omega arith; less = omega (arith, le, short); same = inl (omega (arith, le, short)) }
]

-- and another
two_steps : (a b x w y z : ℕ) → IsStep a b x w → IsStep x w y z → IsStep a b y z
two_steps a b x w y z first second = record {
  up = omega (arith, first.up, second.up);
  less = omega (arith, first.less, second.less);
  same = elim first.same [
    | inr long ↦ inr (omega (arith, long, second.up))
    | inl same ↦ elim second.same [
      | inr long ↦ inr (omega (arith, long, first.up))
      | inl also ↦ inl (omega (arith, same, also))
    ]
  ];
}

-- ---- numbers that ascend

-- no number is below the last one, and none below an earlier one
abbrev AreUp : ℕ → List ℕ → Type 0
AreUp last [] = Unit {0}
AreUp last (n ∷ more) = (last ≤ n) × AreUp n more

-- each is a step behind the last one
from_last : (last low : ℕ) (numbers : List ℕ) → AreUp last numbers → (k : ℕ) → k < length numbers
    → IsStep last low (slice_index numbers k) (slice_index (pressed_from last low numbers) k)
from_last last low [] up k l = absurd (omega (arith, l))
from_last last low (n ∷ more) up zero l = one_step last low n up.0
from_last last low (n ∷ more) up (suc k) l =
    two_steps last low n (pressed_behind last low n) _ _ (one_step last low n up.0)
    (from_last n (pressed_behind last low n) more up.1 k (omega (arith, l)))

-- and behind each earlier one
behind : (last low : ℕ) (numbers : List ℕ) → AreUp last numbers → (j k : ℕ) → j ≤ k → k < length numbers
    → IsStep (slice_index numbers j) (slice_index (pressed_from last low numbers) j) (slice_index numbers k)
    (slice_index (pressed_from last low numbers) k)
behind last low [] up j k le l = absurd (omega (arith, l))
behind last low (n ∷ more) up zero zero le l = no_step n (pressed_behind last low n)
behind last low (n ∷ more) up zero (suc k) le l =
    from_last n (pressed_behind last low n) more up.1 k (omega (arith, l))
behind last low (n ∷ more) up (suc j) zero le l = absurd (omega (arith, le))
behind last low (n ∷ more) up (suc j) (suc k) le l =
    behind n (pressed_behind last low n) more up.1 j k (omega (arith, le)) (omega (arith, l))

-- none is pressed to more than so many of the longest steps
pub below_steps : (last low : ℕ) (numbers : List ℕ) (k : ℕ) → k < length numbers
    → slice_index (pressed_from last low numbers) k ≤ low + (k + 1) * LONGEST_STEP
below_steps last low [] k l = absurd (omega (arith, l))
below_steps last low (n ∷ more) zero l = omega arith
below_steps last low (n ∷ more) (suc k) l =
    omega (arith, below_steps n (pressed_behind last low n) more k (omega (arith, l)))

-- numbers that don't fall are up
up_from : (last : ℕ) (numbers : List ℕ) → ((k : ℕ) → k < length numbers → last ≤ slice_index numbers k)
    → IsNonDecreasing numbers → AreUp last numbers
up_from last [] low ascend = tt
up_from last (n ∷ more) low ascend = (
  low 0 (omega arith),
  up_from n more (λ k l. ascend 0 (suc k) 0 (omega arith) (omega (arith, l)))
      (λ i j d le l. ascend (suc i) (suc j) d (omega (arith, le)) (omega (arith, l))),
)

module _ (numbers : List ℕ) (ascend : IsNonDecreasing numbers) where
  -- they rise from 0 on
  up : AreUp 0 numbers
  up = up_from 0 numbers (λ k l. omega arith) ascend

  -- a number is pressed to no more than it is
  pub falls : (x w : ℕ) → IsPressed numbers x w → w ≤ x
  falls x w (k, l, x_is, w_is) = omega (arith, (from_last 0 0 numbers up k l).less, x_is, w_is)

  -- of two numbers the lower one is pressed to no more
  pub step : (x w y z : ℕ) → IsPressed numbers x w → IsPressed numbers y z → x ≤ y → IsStep x w y z
  step x w y z (j, l, x_is, w_is) (k, m, y_is, z_is) le = elim (cases_lt k j) [
    | inr before ↦ rw (← x_is, ← w_is, ← y_is, ← z_is) (behind 0 0 numbers up j k before m)
    | inl after ↦
        let back = behind 0 0 numbers up k j (omega (arith, after)) l in
        let x_y : x ≡ y = omega (arith, le, x_is, y_is, ascend k j 0 (omega (arith, after)) l) in
        let w_z : w ≡ z = omega (arith, back.up, back.less, x_is, w_is, y_is, z_is, x_y) in
        rw (x_y, w_z) (no_step y z)
  ]

  -- over whichever of two arcs a query pays no more, it still does
  pub order : (cost other : ℕ) → cost ≤ 1000000 → other ≤ 1000000 → (x w y z : ℕ) → IsPressed numbers x w
      → IsPressed numbers y z → cost + x ≤ other + y → cost + w ≤ other + z
  order cost other low low_other x w y z px py pays = elim (cases_lt y x) [
    | inr le ↦
        let is = step x w y z px py le in
        elim is.same [
          | inl same ↦ omega (arith, same, pays)
          | inr long ↦ omega (arith, long, low)
        ]
    | inl less ↦
        let is = step y z x w py px (omega (arith, less)) in omega (arith, is.less, pays)
  ]

-- there are as many
pub many_pressed : (last low : ℕ) (numbers : List ℕ) → length (pressed_from last low numbers) ≡ length numbers
many_pressed last low [] = refl
many_pressed last low (n ∷ more) = omega (arith, many_pressed n (pressed_behind last low n) more)
