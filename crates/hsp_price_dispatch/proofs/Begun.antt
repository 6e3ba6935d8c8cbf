-- The cells of a plan's classes, and what a front holds at first.
use Rattle.std.proofs.Common.{◌≡◌, ◌<◌, ◌≤◌, ◌+◌, ◌∙◌, ℕ, true, List, [], ◌∷◌, length, map, All}
use Rattle.std.proofs.Common.{ap, arith, get_or, leb-true, ltb-true, nat_le, nat_lt, slice_index, subst, sym}
use Rattle.std.specs.List.{AllByRecursion, flat_map, list_all}
use Rattle.std.proofs.lemmas.Bool.{and_parts}
use Rattle.std.proofs.lemmas.List.{get_or-map, length-map}
use Rattle.std.proofs.lemmas.List.Elements.{All-from_recursion}
use Rattle.std.proofs.lemmas.List.Folds.{length-flat_map-take}
use Rattle.std.proofs.lemmas.List.Sums.{AllPass-from_list_all}
use Rattle.hsp_text.specs.Name.{is_name}
use Rattle.hsp_prices.specs.Rows.{Service}
use Rattle.hsp_price_text.specs.Claim.{Best, Class, are_servers, is_best, is_class, is_server}
use Rattle.hsp_price_text.proofs.DraftSteps.{best_parts}
use Rattle.hsp_cert.specs.Certificate.{ascends}
use Rattle.hsp_prices.specs.Sums.{sends}
use Rattle.hsp_prices.proofs.GivenClasses.{IsGiven, given_classes}
use Rattle.hsp_prices.proofs.Once.{Ordered}
use Rattle.hsp_price_check.specs.ClassNumbers.{HasClasses}
use Rattle.hsp_price_check.specs.Extras.{AreExtras}
use Rattle.hsp_price_check.specs.Passed.{class_at, no_class}
use Rattle.hsp_price_dispatch.specs.Choosing.{first_cell}
use Rattle.hsp_price_dispatch.specs.Holding.{Held}
use Rattle.hsp_price_dispatch.specs.Standing.{IsIndexOf}
use Rattle.hsp_price_dispatch.specs.Starting.{IsBegun, cell_of, cells_of}
use Rattle.hsp_price_dispatch.specs.declared.cells.Cell.{Cell}
use Rattle.hsp_price_dispatch.specs.declared.choosing.Index.{Index}
use Rattle.hsp_price_dispatch.proofs.FirstCells.{sends_many}
use Rattle.hsp_price_dispatch.proofs.Fronts.{sends_there}
use Rattle.hsp_price_dispatch.proofs.Sums.{all_sends, cells_are}

-- ---- classes

-- there are not too many
pub classes_most : (plan : Best) → is_best plan ≡ true → length plan.classes ≤ 1048576
classes_most plan is = leb-true (length plan.classes) 1048576 (best_parts plan is).few

-- what comes behind a number is above it
behind : (x : ℕ) (xs : List ℕ) → AllByRecursion (λ y. nat_lt x y ≡ true) xs → AllByRecursion (λ y. x + 1 ≤ y) xs
behind x [] all = tt
behind x (y ∷ ys) all = let low : x < y = ltb-true x y all.0 in (omega (arith, low), behind x ys all.1)

-- numbers in strict order are no more than there are from the first to the last
ordered_few : (xs : List ℕ) (low most : ℕ) → Ordered nat_lt xs → AllByRecursion (λ x. low ≤ x) xs
    → AllByRecursion (λ x. x < most) xs → low ≤ most → length xs + low ≤ most
ordered_few [] low most up above below room = omega arith
ordered_few (x ∷ xs) low most up above below room =
    let more = ordered_few xs (x + 1) most up.1 (behind x xs up.0) below.1 (omega (arith, below.0)) in
    omega (arith, more, above.0)

-- servers are below 1,024
servers_low : (xs : List ℕ) → list_all is_server xs ≡ true → AllByRecursion (λ x. x < 1024) xs
servers_low [] e = tt
servers_low (x ∷ xs) e =
    let parts = and_parts (is_server x) (list_all is_server xs) e in
    let low : x ≤ 1023 = leb-true x 1023 parts.0 in
    (omega (arith, low), servers_low xs parts.1)

-- no number is below 0
none_below : (xs : List ℕ) → AllByRecursion (λ x. 0 ≤ x) xs
none_below [] = tt
none_below (x ∷ xs) = (omega arith, none_below xs)

-- no class has more cells than servers may be
pub classes_few_cells : (plan : Best) → is_best plan ≡ true
    → All (λ (class : Class). length (sends class) ≤ 1024) plan.classes
classes_few_cells plan is k d l =
    let class = get_or plan.classes k d in
    let own : is_class class ≡ true = AllPass-from_list_all is_class plan.classes (best_parts plan is).classes k d l in
    let named = and_parts (is_name class.region) _ own in
    let two = and_parts (nat_le 2 (length class.servers)) _ named.1 in
    let servers = and_parts (are_servers class.servers) _ two.1 in
    let ascending = and_parts (list_all is_server class.servers) (ascends nat_lt class.servers) servers.0 in
    let given : IsGiven class = All-from_recursion IsGiven plan.classes (given_classes plan is) k d l in
    let few =
    ordered_few class.servers 0 1024 given.order (none_below class.servers) (servers_low class.servers ascending.0)
    (omega arith) in
    omega (arith, few, sends_many class)

-- ---- cells

-- as many as servers of classes
pub cells_many : (fronts front : ℕ) (classes : List Class)
    → length (flat_map (cells_of fronts front) classes) ≡ length (all_sends classes)
cells_many fronts front classes =
    ap (λ (list : List Cell). length list) (cells_are fronts front classes)
    ∙ length-map (all_sends classes) (cell_of fronts front)

-- those of each class are there
pub cells_enough : (fronts front : ℕ) (plan : Best) → is_best plan ≡ true → (k : ℕ) → k < length plan.classes
    → first_cell plan.classes k + length (class_at plan k).servers
    ≤ length (flat_map (cells_of fronts front) plan.classes)
cells_enough fronts front plan is k l =
    let given : IsGiven (class_at plan k) =
    All-from_recursion IsGiven plan.classes (given_classes plan is) k no_class l in
    omega (
      arith,
      cells_many fronts front plan.classes,
      length-flat_map-take sends plan.classes k no_class l,
      sends_many (class_at plan k),
      given.amounts,
    )

-- their servers are there
pub cells_in : (fronts front n : ℕ) (classes : List Class)
    → All (λ (class : Class). All (λ j. j < n) class.servers) classes
    → All (λ (cell : Cell). cell.server < n) (flat_map (cells_of fronts front) classes)
cells_in fronts front n classes there =
    subst (λ (list : List Cell). All (λ (cell : Cell). cell.server < n) list) (sym (cells_are fronts front classes))
    (λ k d l.
    let inside : k < length (all_sends classes) = omega (arith, length-map (all_sends classes) (cell_of fronts front))
    in
    let own = sends_there n classes there k (0, 0) inside in
    subst (λ (cell : Cell). cell.server < n)
    (sym (get_or-map (cell_of fronts front) (all_sends classes) k (0, 0) d inside)) own)

-- ---- the index

-- the lists of a plan's prices and classes are those of a front that begins by it
pub index_is : (at : Service) (plan : Best) (fronts front : ℕ) (own : Held) (index : Index)
    → IsBegun at plan fronts front own → is_best plan ≡ true → length plan.server_prices ≡ length at.servers
    → AreExtras (map (λ server. server.host) at.servers) plan.server_prices plan.host_prices index.extras.items
    → HasClasses plan.classes index.classes.entries → length index.firsts.items ≡ length plan.classes
    → ((k : ℕ) → k < length plan.classes → slice_index index.firsts.items k ≡ first_cell plan.classes k)
    → IsIndexOf own index
index_is at plan fronts front own index begun fits prices extras classes many firsts = record {
  prices = rw (begun.plan_is, begun.service) prices;
  extras = rw (begun.plan_is, begun.service) extras;
  classes = rw begun.plan_is classes;
  firsts_many = rw begun.plan_is many;
  firsts = rw begun.plan_is firsts;
  cells = rw (begun.plan_is, begun.cells) (cells_enough fronts front plan fits);
}
