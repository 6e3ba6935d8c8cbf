-- The classes of a certificate: they stand in strict order, and so do the servers of each.
use Rattle.std.proofs.Common.{◌≡◌, ℕ, ◌+◌, ◌≤◌, ◌==◌, ◌∙◌, Bool, true, List, [], ◌∷◌, length}
use Rattle.std.proofs.Common.{None, sum, sum_by, zip, refl, ap, ap₂, sym, arith, eqb-true, leb-true, lt-ltb, ltb-true}
use Rattle.std.proofs.Common.{nat_le, nat_lt, nat_cmp, is_lt, Ordering, Less, Equal, Greater}
use Rattle.std.specs.List.{AllByRecursion, list_all}
use Rattle.std.specs.Cmp.Lexicographic.{slice_cmp}
use Rattle.std.specs.Cmp.{IsTotalOrder}
use Rattle.std.specs.Ordering.{ordering_then}
use Rattle.std.proofs.lemmas.Bool.{and_parts, both_ways, false≢true}
use Rattle.std.proofs.lemmas.Cmp.{nat_list_cmp_total, on_total, then_total, tied_itself}
use Rattle.std.proofs.lemmas.List.Sums.{sum_by-cons}
use Rattle.hsp_cert.specs.Certificate.{ascends}
use Rattle.hsp_price_text.specs.Claim.{Best, Class, are_servers, is_amount, is_before, is_best, is_class, is_server}
use Rattle.hsp_price_text.proofs.DraftSteps.{best_parts}
use Rattle.hsp_text.specs.Name.{is_name}
use Rattle.hsp_transport.proofs.Rowwise.{when, when_here, when_there}
use Rattle.hsp_prices.specs.Sums.{class_load, sends}
use Rattle.hsp_prices.proofs.Lists.{all_both, same_sum}
use Rattle.hsp_prices.proofs.Once.{AtMostOnce, Ordered, once_ordered, ordered}

-- ---- the order of classes

-- by region and then by servers is an order of all classes
compare_total :
    IsTotalOrder {K = Class}
    (λ c d. ordering_then (slice_cmp nat_cmp c.region d.region) (slice_cmp nat_cmp c.servers d.servers))
compare_total =
    then_total (on_total (λ (c : Class). c.region) nat_list_cmp_total)
    (on_total (λ (c : Class). c.servers) nat_list_cmp_total)

-- less is less
less_from : (r : Ordering) → is_lt r ≡ true → r ≡ Less
less_from Less e = refl
less_from Equal e = absurd (false≢true e)
less_from Greater e = absurd (false≢true e)

-- the order is passed on
before_trans : (c d e : Class) → is_before c d ≡ true → is_before d e ≡ true → is_before c e ≡ true
before_trans c d e p q =
    ap is_lt (compare_total.trans c d e (less_from _ p) (less_from _ q))

-- two classes with the same region and servers don't stand one before the other
not_before : (c d : Class) → c.region ≡ d.region → c.servers ≡ d.servers → is_before c d ≡ true → ⊥
not_before c d r s e =
    let same : ordering_then (slice_cmp nat_cmp c.region d.region) (slice_cmp nat_cmp c.servers d.servers) ≡ Equal =
    ap₂ (λ x y. ordering_then (slice_cmp nat_cmp c.region x) (slice_cmp nat_cmp c.servers y)) (sym r) (sym s)
    ∙ tied_itself compare_total c in
    both_ways (is_before c d) (ap is_lt same) e

-- ---- the classes of a plan

-- two servers or more in strict order, and an amount for each
pub record IsGiven (class : Class) : Type 0 where
  pub several : 2 ≤ length class.servers
  pub order : Ordered nat_lt class.servers
  pub amounts : length class.amounts ≡ length class.servers

-- a number below one that is below another is below it
less_trans : (a b c : ℕ) → nat_lt a b ≡ true → nat_lt b c ≡ true → nat_lt a c ≡ true
less_trans a b c p q = lt-ltb a c (omega (arith, ltb-true a b p, ltb-true b c q))

-- a class within the orders and ranges has them
given : (c : Class) → is_class c ≡ true → IsGiven c
given c e =
    let named = and_parts (is_name c.region) _ e in
    let two = and_parts (nat_le 2 (length c.servers)) _ named.1 in
    let servers = and_parts (are_servers c.servers) _ two.1 in
    let ascending = and_parts (list_all is_server c.servers) (ascends nat_lt c.servers) servers.0 in
    let amounts = and_parts (length c.amounts == length c.servers) (list_all is_amount c.amounts) servers.1 in
    record {
      several = leb-true 2 (length c.servers) two.0;
      order = ordered nat_lt less_trans None c.servers ascending.1;
      amounts = eqb-true (length c.amounts) (length c.servers) amounts.0;
    }

-- and so have all
all_given : (classes : List Class) → list_all is_class classes ≡ true → AllByRecursion IsGiven classes
all_given [] e = tt
all_given (c ∷ classes) e =
    let parts = and_parts (is_class c) (list_all is_class classes) e in (given c parts.0, all_given classes parts.1)

module _ (plan : Best) (is : is_best plan ≡ true) where
  -- its classes are within the ranges
  pub given_classes : AllByRecursion IsGiven plan.classes
  given_classes = all_given plan.classes (best_parts plan is).classes

  -- and in strict order
  ordered_classes : Ordered is_before plan.classes
  ordered_classes = ordered is_before before_trans None plan.classes (best_parts plan is).order

  -- so a test that only classes of one region with the same servers pass is passed at most once
  pub one_class : (test : Class → Bool)
      → ((c d : Class) → test c ≡ true → test d ≡ true → (c.region ≡ d.region) × (c.servers ≡ d.servers))
      → AtMostOnce test plan.classes
  one_class test tells =
      once_ordered is_before test
      (λ c d t s b. let p = tells c d t s in not_before c d p.0 p.1 b) plan.classes ordered_classes

-- ---- what a class sends

-- what servers with amounts bring to a server
abbrev brought : ℕ → List ℕ → List ℕ → ℕ
brought j servers amounts = sum_by (λ (s : ℕ × ℕ). when (s.0 == j) s.1) (zip servers amounts)

-- servers behind a server bring nothing to it
none_brought : (j : ℕ) (servers amounts : List ℕ) → AllByRecursion (λ i. nat_lt j i ≡ true) servers
    → brought j servers amounts ≡ 0
none_brought j [] amounts after = refl
none_brought j (i ∷ servers) [] after = refl
none_brought j (i ∷ servers) (n ∷ amounts) after =
    omega (
      arith,
      sum_by-cons (λ (s : ℕ × ℕ). when (s.0 == j) s.1) (i, n) (zip servers amounts),
      when_there i j n (λ e. omega (arith, ltb-true j i after.0)),
      none_brought j servers amounts after.1,
    )

-- a sum over servers of what is brought to each is one over servers and amounts
sum_brought : (f : ℕ → ℕ → ℕ) (servers amounts : List ℕ) → Ordered nat_lt servers → length amounts ≡ length servers
    → sum_by (λ i. f i (brought i servers amounts)) servers ≡ sum_by (λ (s : ℕ × ℕ). f s.0 s.1) (zip servers amounts)
sum_brought f [] amounts up many = refl
sum_brought f (i ∷ servers) [] up many = absurd (omega arith)
sum_brought f (i ∷ servers) (n ∷ amounts) up many =
    let all = λ (j : ℕ). sum_by-cons (λ (s : ℕ × ℕ). when (s.0 == j) s.1) (i, n) (zip servers amounts) in
    let own : brought i (i ∷ servers) (n ∷ amounts) ≡ n =
    omega (arith, all i, when_here i n, none_brought i servers amounts up.0) in
    let later
    : AllByRecursion (λ j. f j (brought j (i ∷ servers) (n ∷ amounts)) ≡ f j (brought j servers amounts)) servers =
    all_both (λ j. nat_lt i j ≡ true) (λ j. nat_lt i j ≡ true)
    (λ j. f j (brought j (i ∷ servers) (n ∷ amounts)) ≡ f j (brought j servers amounts)) servers
    (λ j after _. ap (f j) (omega (arith, all j, when_there i j n (λ e. omega (arith, ltb-true i j after)))))
    up.0 up.0 in
    sum_by-cons (λ j. f j (brought j (i ∷ servers) (n ∷ amounts))) i servers
    ∙ ap₂ (λ a b. a + b) (ap (f i) own)
    (same_sum (λ j. f j (brought j (i ∷ servers) (n ∷ amounts))) (λ j. f j (brought j servers amounts)) servers later
    ∙ sum_brought f servers amounts up.1 (omega arith))
    ∙ sym (sum_by-cons (λ (s : ℕ × ℕ). f s.0 s.1) (i, n) (zip servers amounts))

-- the same of a class
pub class_sums : (f : ℕ → ℕ → ℕ) (c : Class) → IsGiven c
    → sum_by (λ i. f i (class_load i c)) c.servers ≡ sum_by (λ (s : ℕ × ℕ). f s.0 s.1) (sends c)
class_sums f c is = sum_brought f c.servers c.amounts is.order is.amounts

-- what servers get together is all amounts
all_amounts : (servers amounts : List ℕ) → length amounts ≡ length servers
    → sum_by (λ (s : ℕ × ℕ). s.1) (zip servers amounts) ≡ sum amounts
all_amounts [] [] many = refl
all_amounts [] (n ∷ amounts) many = absurd (omega arith)
all_amounts (i ∷ servers) [] many = absurd (omega arith)
all_amounts (i ∷ servers) (n ∷ amounts) many =
    sum_by-cons (λ (s : ℕ × ℕ). s.1) (i, n) (zip servers amounts)
    ∙ ap (λ v. n + v) (all_amounts servers amounts (omega arith)) ∙ sym (sum_by-cons (λ x. x) n amounts)

-- what a class sends is its amounts
pub class_amounts : (c : Class) → IsGiven c → sum_by (λ (s : ℕ × ℕ). s.1) (sends c) ≡ sum c.amounts
class_amounts c is = all_amounts c.servers c.amounts is.amounts
