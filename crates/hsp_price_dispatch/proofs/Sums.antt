-- What classes bring to servers and hosts, and what is held there, as sums over the servers of all classes.
use Rattle.std.proofs.Common.{◌≡◌, ◌<◌, ◌≤◌, ◌+◌, ◌*◌, ◌∙◌, ◌++◌, ◌==◌, ℕ, Bool, true, false, List, [], ◌∷◌, length}
use Rattle.std.proofs.Common.{All, map, sum_by, refl, ap, sym, arith, if◌then◌else◌, zero-add}
use Rattle.std.specs.List.{flat_map}
use Rattle.std.proofs.lemmas.List.{map-append}
use Rattle.std.proofs.lemmas.List.Sums.{sum_by-append, sum_by-cons}
use Rattle.hsp_transport.specs.Sums.{sum_below}
use Rattle.hsp_transport.proofs.Summing.{by_key, sum_below_same, sum_below_zero, sum_by_le_all, sum_by_map}
use Rattle.hsp_transport.proofs.Rowwise.{same_by, turned}
use Rattle.hsp_check.specs.Plan.{is_on}
use Rattle.hsp_prices.specs.Rows.{Service}
use Rattle.hsp_price_text.specs.Claim.{Best, Class}
use Rattle.hsp_prices.specs.Least.{host_at}
use Rattle.hsp_prices.specs.Sums.{class_load, host_load_at, load_at, sends}
use Rattle.hsp_log.specs.FrontShares.{share}
use Rattle.hsp_log.proofs.FrontShares.{share_le, shares_add_up}
use Rattle.hsp_price_dispatch.specs.Holding.{left_where}
use Rattle.hsp_price_dispatch.specs.Starting.{cell_of, cells_of}
use Rattle.hsp_price_dispatch.specs.declared.cells.Cell.{Cell}

-- ---- lists

-- a sum over lists joined end to end
pub sum_joined : {A B : Type 0} (g : B → ℕ) (f : A → List B) (xs : List A)
    → sum_by g (flat_map f xs) ≡ sum_by (λ x. sum_by g (f x)) xs
sum_joined g f [] = refl
sum_joined g f (x ∷ xs) =
    sum_by-append g (f x) (flat_map f xs) ∙ ap (λ n. sum_by g (f x) + n) (sum_joined g f xs)
    ∙ sym (sum_by-cons (λ x. sum_by g (f x)) x xs)

-- the servers of all classes, each with its amount
abbrev pub all_sends : List Class → List (ℕ × ℕ)
all_sends classes = flat_map sends classes

-- the cells of a front are one for each of them
pub cells_are : (fronts front : ℕ) (classes : List Class)
    → flat_map (cells_of fronts front) classes ≡ map (cell_of fronts front) (all_sends classes)
cells_are fronts front [] = refl
cells_are fronts front (class ∷ classes) =
    ap (λ more. map (cell_of fronts front) (sends class) ++ more) (cells_are fronts front classes)
    ∙ sym (map-append (cell_of fronts front) (sends class) (all_sends classes))

-- ---- what some bring to the servers that pass a test

-- by a weight of each amount
abbrev pub sent_where : (ℕ → ℕ) → (ℕ → Bool) → List (ℕ × ℕ) → ℕ
sent_where weight test all = sum_by (λ (sent : ℕ × ℕ). if test sent.0 then weight sent.1 else 0) all

abbrev pub whole : ℕ → ℕ
whole n = n

-- what is left in the cells of a front at first
pub left_is : (fronts front : ℕ) (test : ℕ → Bool) (classes : List Class)
    → left_where test (flat_map (cells_of fronts front) classes)
    ≡ sent_where (share fronts front) test (all_sends classes)
left_is fronts front test classes =
    ap (left_where test) (cells_are fronts front classes)
    ∙ sum_by_map (λ (cell : Cell). if test cell.server then cell.left else 0) (cell_of fronts front) (all_sends classes)

-- the amounts of all classes at a server
pub load_is : (at : Service) (plan : Best) (j : ℕ)
    → load_at at plan [] j ≡ sent_where whole (λ k. k == j) (all_sends plan.classes)
load_is at plan j =
    zero-add (sum_by (class_load j) plan.classes)
    ∙ sym (sum_joined (λ (sent : ℕ × ℕ). if sent.0 == j then sent.1 else 0) sends plan.classes)

-- ---- all fronts together

-- a test of what all fronts have
if_sum : (t : Bool) (n : ℕ) (f : ℕ → ℕ) → sum_below n (λ i. if t then f i else 0) ≡ (if t then sum_below n f else 0)
if_sum true n f = refl
if_sum false n f = sum_below_zero n (λ i. 0) (λ k l. refl)

-- the shares of all fronts come to the whole amounts
pub shares_together : (fronts : ℕ) (test : ℕ → Bool) (all : List (ℕ × ℕ)) → 0 < fronts
    → sum_below fronts (λ front. sent_where (share fronts front) test all) ≡ sent_where whole test all
shares_together fronts test all some =
    sym (turned (λ front (sent : ℕ × ℕ). if test sent.0 then share fronts front sent.1 else 0) all fronts)
    ∙ same_by (λ (sent : ℕ × ℕ). sum_below fronts (λ front. if test sent.0 then share fronts front sent.1 else 0))
    (λ (sent : ℕ × ℕ). if test sent.0 then sent.1 else 0) all
    (λ (sent : ℕ × ℕ). if_sum (test sent.0) fronts (λ front. share fronts front sent.1)
    ∙ ap (λ n. if test sent.0 then n else 0) (shares_add_up fronts sent.1 some))

-- no front has more than the whole
if_le : (t : Bool) (a b : ℕ) → a ≤ b → (if t then a else 0) ≤ (if t then b else 0)
if_le true a b l = l
if_le false a b l = omega arith

-- so the shares come to no more than the whole amounts
pub shares_low : (fronts front : ℕ) (test : ℕ → Bool) (all : List (ℕ × ℕ)) → 0 < fronts
    → sent_where (share fronts front) test all ≤ sent_where whole test all
shares_low fronts front test all some =
    sum_by_le_all (λ (sent : ℕ × ℕ). if test sent.0 then share fronts front sent.1 else 0)
    (λ (sent : ℕ × ℕ). if test sent.0 then sent.1 else 0) all
    (λ k d l. if_le (test _) _ _ (share_le fronts front _ some))

-- ---- hosts

-- a number, or 0, as a product
pub as_times : (t : Bool) (n : ℕ) → (if t then 1 else 0) * n ≡ (if t then n else 0)
as_times true n = omega arith
as_times false n = omega arith

-- a sum over keys that pass a test, key by key
pub by_keys : {A : Type 0} (key : A → ℕ) (f : A → ℕ) (test : ℕ → Bool) (n : ℕ) (xs : List A)
    → All (λ a. key a < n) xs
    → sum_by (λ a. if test (key a) then f a else 0) xs
    ≡ sum_below n (λ j. if test j then sum_by (λ a. if key a == j then f a else 0) xs else 0)
by_keys key f test n xs all =
    let weight = λ (j : ℕ). if test j then 1 else 0 in
    same_by (λ a. if test (key a) then f a else 0) (λ a. weight (key a) * f a) xs
    (λ a. sym (as_times (test (key a)) (f a)))
    ∙ by_key key f weight n xs all
    ∙ sum_below_same n (λ j. weight j * sum_by (λ a. if key a == j then f a else 0) xs)
    (λ j. if test j then sum_by (λ a. if key a == j then f a else 0) xs else 0)
    (λ j l. as_times (test j) (sum_by (λ a. if key a == j then f a else 0) xs))

-- what is left at the servers of a host, server by server
pub host_left : (at : Service) (cells : List Cell) (h : ℕ) → All (λ cell. cell.server < length at.servers) cells
    → left_where (λ k. is_on (host_at at k) h) cells
    ≡ sum_below (length at.servers) (λ j. if is_on (host_at at j) h then left_where (λ k. k == j) cells else 0)
host_left at cells h all =
    by_keys (λ (cell : Cell). cell.server) (λ (cell : Cell). cell.left) (λ k. is_on (host_at at k) h)
    (length at.servers) cells all

-- the amounts of all classes at the servers of a host
pub host_load_is : (at : Service) (plan : Best) (h : ℕ)
    → All (λ (sent : ℕ × ℕ). sent.0 < length at.servers) (all_sends plan.classes)
    → host_load_at at plan [] h ≡ sent_where whole (λ k. is_on (host_at at k) h) (all_sends plan.classes)
host_load_is at plan h all =
    sum_below_same (length at.servers) (λ j. if is_on (host_at at j) h then load_at at plan [] j else 0)
    (λ j. if is_on (host_at at j) h then sent_where whole (λ k. k == j) (all_sends plan.classes) else 0)
    (λ j l. ap (λ n. if is_on (host_at at j) h then n else 0) (load_is at plan j))
    ∙ sym (by_keys (λ (sent : ℕ × ℕ). sent.0) (λ (sent : ℕ × ℕ). sent.1) (λ k. is_on (host_at at k) h)
    (length at.servers) (all_sends plan.classes) all)
