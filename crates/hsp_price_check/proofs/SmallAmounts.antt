-- The amounts of a class are small together.
use Rattle.std.proofs.Common.{◌≡◌, ◌≤◌, ◌<◌, ◌+◌, ◌*◌, ◌^◌, ℕ, true, List, [], ◌∷◌, length, sum, arith}
use Rattle.std.proofs.Common.{nat_lt, nat_le, leb-true}
use Rattle.std.proofs.Math.Dec.{leb-zero}
use Rattle.std.proofs.lemmas.Bool.{and_parts}
use Rattle.std.proofs.lemmas.List.Sums.{sum_by-cons}
use Rattle.std.specs.List.{AllByRecursion, list_all}
use Rattle.hsp_text.specs.Name.{is_name}
use Rattle.hsp_cert.specs.Certificate.{ascends}
use Rattle.hsp_price_text.specs.Claim.{Class, are_servers, is_amount, is_class, is_server}
use Rattle.hsp_prices.proofs.GivenClasses.{IsGiven}
use Rattle.hsp_prices.proofs.Once.{Ordered}

-- numbers in strict order from one on, below another, are no more than there are between them
few_ordered : (most low : ℕ) (xs : List ℕ) → low ≤ most → Ordered nat_lt xs → list_all is_server xs ≡ true
    → AllByRecursion (λ x. nat_le low x ≡ true) xs → 1024 ≤ most → length xs + low ≤ most
few_ordered most low [] l order each above m = omega (arith, l)
few_ordered most low (x ∷ xs) l order each above m =
    let parts = and_parts (is_server x) (list_all is_server xs) each in
    let here : x ≤ 1023 = leb-true x 1023 parts.0 in
    let later = few_ordered most (x + 1) xs (omega (arith, here, m)) order.1 parts.1 (next xs order.0) m in
    omega (arith, later, leb-true low x above.0)
  where
    next : (ys : List ℕ) → AllByRecursion (λ y. nat_lt x y ≡ true) ys → AllByRecursion (λ y. nat_le (x + 1) y ≡ true) ys
    next [] all = tt
    next (y ∷ ys) all = (let less = all.0 in grind (arith, less), next ys all.1)

-- all numbers are 0 or more
from_zero : (xs : List ℕ) → AllByRecursion (λ x. nat_le 0 x ≡ true) xs
from_zero [] = tt
from_zero (x ∷ xs) = (leb-zero x, from_zero xs)

-- amounts within their limit are at most so many times it
sum_low : (amounts : List ℕ) → list_all is_amount amounts ≡ true → sum amounts ≤ length amounts * 1000000000000
sum_low [] e = omega arith
sum_low (n ∷ amounts) e =
    let parts = and_parts (is_amount n) (list_all is_amount amounts) e in
    omega (
      arith,
      sum_by-cons (λ x. x) n amounts,
      leb-true n 1000000000000 parts.0,
      sum_low amounts parts.1,
    )

-- the amounts of a class are small together
pub amounts_small : (class : Class) → is_class class ≡ true → IsGiven class → sum class.amounts < 2 ^ 64
amounts_small class e given =
    let named = and_parts (is_name class.region) _ e in
    let two = and_parts (nat_le 2 (length class.servers)) _ named.1 in
    let servers = and_parts (are_servers class.servers) _ two.1 in
    let each = (and_parts (list_all is_server class.servers) (ascends nat_lt class.servers) servers.0).0 in
    let amounts = (and_parts _ (list_all is_amount class.amounts) servers.1).1 in
    let few : length class.servers + 0 ≤ 1024 =
    few_ordered 1024 0 class.servers (omega arith) given.order each (from_zero class.servers) (omega arith) in
    omega (arith, few, given.amounts, sum_low class.amounts amounts)
