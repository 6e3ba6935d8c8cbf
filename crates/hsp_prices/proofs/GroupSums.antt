-- What rows and classes have together is what the flows of the groups have.
use Rattle.std.proofs.Common.{◌≡◌, ℕ, ◌+◌, ◌<◌, ◌∙◌, Bool, true, false, List, [], ◌∷◌, Option, Some, None}
use Rattle.std.proofs.Common.{filter, length, map, slice_index_or, sum_by, zip, refl, ap, ap₂, sym, arith}
use Rattle.std.proofs.Common.{add-zero, zero-add}
use Rattle.std.specs.List.{AllByRecursion, AllZip, list_any}
use Rattle.std.proofs.lemmas.Bool.{false_from_ne_true}
use Rattle.std.proofs.lemmas.List.Elements.{recursion_from_All}
use Rattle.std.proofs.lemmas.List.Folds.{list_any_none}
use Rattle.std.proofs.lemmas.List.Sums.{sum_by-cons}
use Rattle.hsp_transport.proofs.Rowwise.{same_by, sum_by_none, sum_by_when, when, when_zero, when_same}
use Rattle.hsp_transport.proofs.Summing.{sum_by_add, sum_by_map}
use Rattle.hsp_instance.specs.Instance.{Row}
use Rattle.hsp_instance.specs.declared.arc.Arc.{Arc}
use Rattle.hsp_instance.proofs.Lists.{all_so}
use Rattle.hsp_prices.specs.Rows.{Service}
use Rattle.hsp_prices.proofs.Tabling.{both_equal}
use Rattle.hsp_price_text.specs.Claim.{Best, Class}
use Rattle.hsp_prices.specs.Least.{is_least, least_of, only_arc, pay_over, servers_of}
use Rattle.hsp_prices.specs.Sums.{cost_at, sends}
use Rattle.hsp_prices.proofs.Lists.{all_both, same_sum, sum_turned}
use Rattle.hsp_prices.proofs.Once.{AtMostOnce, sum_none, sum_once}
use Rattle.hsp_prices.specs.Groups.{AreGroupsOf, Group, asked_by, is_in}
use Rattle.hsp_prices.specs.KeptRows.{KeptRow}
use Rattle.hsp_prices.specs.Solved.{AreClassesOf, HasClass, flow_to, is_part, is_same, least_servers, sent_by}
use Rattle.hsp_prices.proofs.Beside.{zip_made}
use Rattle.hsp_prices.proofs.GroupRows.{AreLeast, IsKeptAs, Stands, by_group, least_by, least_in}
use Rattle.hsp_prices.proofs.LeastFlows.{sum_passing}
use Rattle.hsp_prices.proofs.Parted.{once_apart}
use Rattle.hsp_prices.proofs.RowPairs.{sum_alike}
use Rattle.hsp_prices.proofs.SentFlows.{IsSent, firsts, of_sent, own_of, sent_of}

-- what counts of an amount over an arc, and of one from a region to a server: nothing of none, and of two amounts
-- what counts of each
pub record IsWeight (at : Service) (over : Arc → ℕ → ℕ) (to : List ℕ → ℕ → ℕ → ℕ) : Type 0 where
  pub none : (a : Arc) → over a 0 ≡ 0
  pub adds : (a : Arc) (m n : ℕ) → over a (m + n) ≡ over a m + over a n
  pub none_to : (r : List ℕ) (j : ℕ) → to r j 0 ≡ 0
  pub adds_to : (r : List ℕ) (j m n : ℕ) → to r j (m + n) ≡ to r j m + to r j n
  -- an arc counts as its region and its server do
  pub same : (r : List ℕ) (a : Arc) (n : ℕ) → a.cost ≡ cost_at at r a.server → to r a.server n ≡ over a n

-- what counts of an amount over an only arc
abbrev pub at_only : (Arc → ℕ → ℕ) → ℕ → Option Arc → ℕ
at_only over n None = 0
at_only over n (Some arc) = over arc n

-- a sum of amounts that are asked for counts as they do, added up
sum_amounts : {A : Type 0} (f : ℕ → ℕ) → f 0 ≡ 0 → ((m n : ℕ) → f (m + n) ≡ f m + f n) → (test : A → Bool) (w : A → ℕ)
    (xs : List A)
    → f (sum_by (λ x. when (test x) (w x)) xs) ≡ sum_by (λ x. when (test x) (f (w x))) xs
sum_amounts f none adds test w [] = none
sum_amounts f none adds test w (x ∷ xs) =
    ap f (sum_by-cons (λ x. when (test x) (w x)) x xs)
    ∙ adds (when (test x) (w x)) (sum_by (λ x. when (test x) (w x)) xs)
    ∙ ap₂ (λ m n. m + n) (one (test x)) (sum_amounts f none adds test w xs)
    ∙ sym (sum_by-cons (λ x. when (test x) (f (w x))) x xs)
  where
    one : (t : Bool) → f (when t (w x)) ≡ when t (f (w x))
    one true = refl
    one false = none

-- a group, with its flows, has least arcs of its own
abbrev pub HasLeast : Service → Best → Group × List ℕ → Type 0
HasLeast at plan own = AreLeast at plan own.0.region (least_by at plan own.0)

-- what flows from a group over its least arcs is all that it asks for
pub all_met : (at : Service) (plan : Best) (sent : Group × List ℕ) → IsSent at plan sent
    → HasLeast at plan sent →
    sum_by (λ (a : Arc). flow_to a.server sent) (least_by at plan sent.0) ≡ sent.0.demand
all_met at plan sent is least =
    sum_passing (λ a v. v) (λ a. refl) (is_least (pay_over at plan) sent.0.arcs) sent.0.arcs sent.1 is.least least.apart
    ∙ is.met

module _ (at : Service) (plan : Best) (over : Arc → ℕ → ℕ) (to : List ℕ → ℕ → ℕ → ℕ) (weighs : IsWeight at over to)
  where
    -- what counts of all that flows from a group
    abbrev pub counts_of : Group × List ℕ → ℕ
    counts_of sent = sum_by (λ (x : Arc × ℕ). over x.0 x.1) (own_of sent)

    -- which is what its least arcs bring to their servers
    at_least : (sent : Group × List ℕ) → IsSent at plan sent
        → HasLeast at plan sent →
        sum_by (λ (a : Arc). over a (flow_to a.server sent)) (least_by at plan sent.0) ≡ counts_of sent
    at_least sent is least =
        sum_passing over weighs.none (is_least (pay_over at plan) sent.0.arcs) sent.0.arcs sent.1 is.least least.apart

    -- ---- a class

    -- what counts of all that a class sends is what counts of all that flows from its groups
    pub class_counts : (sent : List (Group × List ℕ)) → AllByRecursion (IsSent at plan) sent
        → AllByRecursion (HasLeast at plan) sent → (class : Class)
        → class.amounts ≡ map (sent_by at plan sent class) class.servers →
        sum_by (λ (s : ℕ × ℕ). to class.region s.0 s.1) (sends class)
        ≡ sum_by (λ own. when (is_part at plan class own.0) (counts_of own)) sent
    class_counts sent is least class amounts =
        ap (sum_by (λ (s : ℕ × ℕ). to class.region s.0 s.1))
        (ap (zip class.servers) amounts ∙ zip_made (sent_by at plan sent class) class.servers)
        ∙ sum_by_map (λ (s : ℕ × ℕ). to class.region s.0 s.1) (λ j. (j, sent_by at plan sent class j)) class.servers
        ∙ same_by _ _ class.servers (λ j.
        sum_amounts (to class.region j) (weighs.none_to class.region j) (weighs.adds_to class.region j)
        (λ own. is_part at plan class own.0) (λ own. flow_to j own) sent)
        ∙ sum_turned (λ j own. when (is_part at plan class own.0) (to class.region j (flow_to j own))) class.servers
        sent
        ∙ same_sum _ _ sent (all_both (IsSent at plan) _ _ sent each is least)
      where
        each : (own : Group × List ℕ) → IsSent at plan own
            → HasLeast at plan own →
            sum_by (λ j. when (is_part at plan class own.0) (to class.region j (flow_to j own))) class.servers
            ≡ when (is_part at plan class own.0) (counts_of own)
        each own flows low =
            sum_by_when (is_part at plan class own.0) (λ j. to class.region j (flow_to j own)) class.servers
            ∙ when_same (is_part at plan class own.0) _ _ (λ e.
            let p = (both_equal class.region own.0.region class.servers (least_servers at plan own.0)).0 e in
            ap₂ (λ r js. sum_by (λ j. to r j (flow_to j own)) js) p.0 p.1
            ∙ sum_by_map (λ j. to own.0.region j (flow_to j own)) (λ (a : Arc). a.server) (least_by at plan own.0)
            ∙ same_sum (λ (a : Arc). to own.0.region a.server (flow_to a.server own))
            (λ (a : Arc). over a (flow_to a.server own)) (least_by at plan own.0)
            (all_so (Stands at plan own.0.region) _ (least_by at plan own.0)
            (λ a stands. weighs.same own.0.region a (flow_to a.server own) stands.1) low.stand)
            ∙ at_least own flows low)

    -- ---- rows

    -- what counts of rows by themselves
    abbrev pub row_counts : Row → ℕ
    row_counts row = at_only over row.count (only_arc (least_of at plan row))

    -- for an only arc it is what counts of the sum of what rows ask for
    asked_together : {A : Type 0} (o : Option Arc) (test : A → Bool) (w : A → ℕ) (xs : List A)
        → sum_by (λ x. when (test x) (at_only over (w x) o)) xs ≡ at_only over (sum_by (λ x. when (test x) (w x)) xs) o
    asked_together None test w xs = same_by _ (λ x. 0) xs (λ x. when_zero (test x)) ∙ sum_by_none xs
    asked_together (Some a) test w xs = sym (sum_amounts (over a) (weighs.none a) (weighs.adds a) test w xs)

    -- rows by themselves count as their groups by themselves do
    rows_count : (rows : List Row) (kept : List KeptRow) (groups : List Group) → AllZip (IsKeptAs at plan) rows kept
        → AreGroupsOf kept groups
        → sum_by row_counts rows
        ≡ sum_by (λ (group : Group). at_only over group.demand (only_arc (least_by at plan group))) groups
    rows_count rows kept groups are-kept are =
        sum_alike (IsKeptAs at plan) row_counts
        (λ (row : KeptRow). at_only over row.count (only_arc (least_in at plan row)))
        (λ row k is. ap₂ (λ n arcs. at_only over n (only_arc arcs)) (sym is.count) is.least) rows kept are-kept
        ∙ by_group at plan groups kept are (λ (row : KeptRow). at_only over row.count (only_arc (least_in at plan row)))
        (λ group row. at_only over row.count (only_arc (least_by at plan group)))
        (λ group row own same.
        ap (λ arcs. at_only over row.count (only_arc (filter (is_least (pay_over at plan) arcs) arcs))) same)
        ∙ same_sum _ _ groups
        (all_so (λ (group : Group). group.demand ≡ asked_by kept group) _ groups
        (λ group asked.
        asked_together (only_arc (least_by at plan group)) (λ row. is_in group row) (λ (row : KeptRow). row.count) kept
        ∙ ap (λ n. at_only over n (only_arc (least_by at plan group))) (sym asked))
        (recursion_from_All (λ (group : Group). group.demand ≡ asked_by kept group) groups are.asked))

    -- ---- groups

    -- a group by itself and in its classes
    abbrev own_and_classes : Group × List ℕ → ℕ
    own_and_classes own =
        at_only over own.0.demand (only_arc (least_by at plan own.0))
        + sum_by (λ class. when (is_part at plan class own.0) (counts_of own)) plan.classes

    module _ (groups : List Group) (flows : List ℕ) (classes : AreClassesOf at plan groups flows) where
      -- a group is of at most one class
      once_part : (group : Group) → AtMostOnce (λ class. is_part at plan class group) plan.classes
      once_part group =
          once_apart (λ class. is_part at plan class group) is_same
          (λ c d s t.
          let p = (both_equal c.region group.region c.servers (least_servers at plan group)).0 s in
          let q = (both_equal d.region group.region d.servers (least_servers at plan group)).0 t in
          (both_equal c.region d.region c.servers d.servers).1 (p.0 ∙ sym q.0, p.1 ∙ sym q.1))
          plan.classes classes.apart

      -- and of none where it has less than two least servers
      no_part : (group : Group) → length (least_servers at plan group) < 2
          → list_any (λ class. is_part at plan class group) plan.classes ≡ false
      no_part group few =
          list_any_none (λ class. is_part at plan class group) plan.classes
          (λ k d l.
          let class = slice_index_or plan.classes k d in
          false_from_ne_true (is_part at plan class group) (λ e.
          let same =
          ap length ((both_equal class.region group.region class.servers (least_servers at plan group)).0 e).1 in
          omega (arith, few, same, classes.several k d l)))

      -- what a group sends counts at its only server or in its class
      counted : (own : Group × List ℕ) → IsSent at plan own → HasLeast at plan own
          → HasClass at plan own.0 (least_servers at plan own.0) → own_and_classes own ≡ counts_of own
      counted own is least has =
          by_least (least_by at plan own.0) refl (sym (at_least own is least)) (all_met at plan own is least) has
        where
          by_least : (arcs : List Arc) → least_by at plan own.0 ≡ arcs
              → counts_of own ≡ sum_by (λ (a : Arc). over a (flow_to a.server own)) arcs
              → sum_by (λ (a : Arc). flow_to a.server own) arcs ≡ own.0.demand
              → HasClass at plan own.0 (servers_of arcs)
              → at_only over own.0.demand (only_arc arcs)
              + sum_by (λ class. when (is_part at plan class own.0) (counts_of own)) plan.classes
              ≡ counts_of own
          by_least [] same all met has =
              let few = ap (λ arcs. length (servers_of arcs)) same in
              omega (
                arith,
                all,
                sum_none (λ class. is_part at plan class own.0) (λ class. counts_of own) plan.classes
                    (no_part own.0 (omega (arith, few))),
              )
          by_least (a ∷ []) same all met has =
              let few = ap (λ arcs. length (servers_of arcs)) same in
              let one : sum_by (λ (b : Arc). over b (flow_to b.server own)) (a ∷ []) ≡ over a own.0.demand =
              sum_by-cons (λ (b : Arc). over b (flow_to b.server own)) a []
              ∙ ap (λ v. over a v + 0)
              (let first = sum_by-cons (λ (b : Arc). flow_to b.server own) a [] in omega (arith, first, met))
              ∙ add-zero (over a own.0.demand) in
              omega (
                arith,
                all,
                one,
                sum_none (λ class. is_part at plan class own.0) (λ class. counts_of own) plan.classes
                    (no_part own.0 (omega (arith, few))),
              )
          by_least (a ∷ b ∷ more) same all met has =
              zero-add (sum_by (λ class. when (is_part at plan class own.0) (counts_of own)) plan.classes)
              ∙ sum_once (λ class. is_part at plan class own.0) (counts_of own) plan.classes has (once_part own.0)

      module _ (rows : List Row) (kept : List KeptRow) (are-kept : AllZip (IsKeptAs at plan) rows kept)
          (are : AreGroupsOf kept groups) (is : AllByRecursion (IsSent at plan) (sent_of groups flows))
          (least : AllByRecursion (HasLeast at plan) (sent_of groups flows))
        where
          -- what the classes send counts as what flows from their groups
          classes_count :
              sum_by (λ class. sum_by (λ (s : ℕ × ℕ). to class.region s.0 s.1) (sends class)) plan.classes
              ≡ sum_by (λ own. sum_by (λ class. when (is_part at plan class own.0) (counts_of own)) plan.classes)
              (sent_of groups flows)
          classes_count =
              same_sum _ _ plan.classes
              (all_so
              (λ (class : Class). class.amounts ≡ map (sent_by at plan (sent_of groups flows) class) class.servers) _
              plan.classes (class_counts (sent_of groups flows) is least)
              (recursion_from_All
              (λ (class : Class). class.amounts ≡ map (sent_by at plan (sent_of groups flows) class) class.servers)
              plan.classes classes.amounts))
              ∙ sum_turned (λ class own. when (is_part at plan class own.0) (counts_of own)) plan.classes
              (sent_of groups flows)

          -- rows by themselves and classes count as all that flows from the groups
          pub all_count :
              sum_by row_counts rows
              + sum_by (λ class. sum_by (λ (s : ℕ × ℕ). to class.region s.0 s.1) (sends class)) plan.classes
              ≡ sum_by counts_of (sent_of groups flows)
          all_count =
              ap₂ (λ v w. v + w)
              (rows_count rows kept groups are-kept are
              ∙ ap (sum_by (λ (group : Group). at_only over group.demand (only_arc (least_by at plan group))))
              (sym (firsts groups flows))
              ∙ sum_by_map (λ (group : Group). at_only over group.demand (only_arc (least_by at plan group)))
              (λ (own : Group × List ℕ). own.0) (sent_of groups flows)) classes_count
              ∙ sym
              (sum_by_add (λ own. at_only over own.0.demand (only_arc (least_by at plan own.0)))
              (λ own. sum_by (λ class. when (is_part at plan class own.0) (counts_of own)) plan.classes)
              (sent_of groups flows))
              ∙ same_sum own_and_classes counts_of (sent_of groups flows)
              (all_both (λ own. IsSent at plan own × HasLeast at plan own) _ _
              (sent_of groups flows) (λ own both has. counted own both.0 both.1 has)
              (all_both (IsSent at plan) _ _ (sent_of groups flows) (λ own s l. (s, l)) is least)
              (of_sent (λ group. HasClass at plan group (least_servers at plan group)) groups flows
              (recursion_from_All (λ group. HasClass at plan group (least_servers at plan group)) groups
              classes.placed)))
