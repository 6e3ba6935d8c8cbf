-- What a row of the table of classes sends to its least servers, and what the rows of the table send together.
use Rattle.std.proofs.Common.{◌≡◌, ℕ, ◌+◌, ◌*◌, ◌==◌, ◌∙◌, Bool, true, false, List, [], ◌∷◌}
use Rattle.std.proofs.Common.{All, Option, Some, None, sum_by, refl, ap, ap₂, sym, arith, mul-add, mul-zero}
use Rattle.std.specs.List.{AllByRecursion, list_any}
use Rattle.std.proofs.lemmas.List.Elements.{recursion_from_All}
use Rattle.std.proofs.lemmas.List.Sums.{sum_by-cons}
use Rattle.hsp_transport.proofs.Rowwise.{same_by, sum_by_none, sum_by_when, when, when_here, when_zero, when_same}
use Rattle.hsp_transport.proofs.Summing.{sum_by_add, sum_by_map}
use Rattle.hsp_instance.specs.Instance.{Row}
use Rattle.hsp_instance.specs.declared.arc.Arc.{Arc}
use Rattle.hsp_instance.proofs.Lists.{all_so}
use Rattle.hsp_prices.specs.Rows.{Service, with_count_of}
use Rattle.hsp_prices.proofs.Counting.{table_of}
use Rattle.hsp_price_text.specs.Claim.{Best, Class}
use Rattle.hsp_prices.specs.Least.{is_of, least_of, only_arc}
use Rattle.hsp_prices.specs.Sums.{brings, class_cost, class_load, cost_at, costs, row_cost, row_load, sends}
use Rattle.hsp_prices.specs.Shown.{IsService}
use Rattle.hsp_prices.proofs.ClassKinds.{by_class, classes_are_kinds, is_same_class, least_kept, of_class, own_least}
use Rattle.hsp_prices.proofs.ClassKinds.{alike_to, same_least, same_of}
use Rattle.hsp_prices.proofs.GivenClasses.{IsGiven, class_sums}
use Rattle.hsp_prices.proofs.Lists.{same_sum, sum_turned}
use Rattle.hsp_prices.proofs.Once.{sum_once}
use Rattle.hsp_prices.proofs.ServerArcs.{IsOwn}
use Rattle.hsp_prices.proofs.TableSums.{once_apart, table_any, table_apart, table_sum}

-- what counts at a server for an amount: nothing for none, and for two amounts what counts for each
pub record IsLinear (f : ℕ → ℕ → ℕ) : Type 0 where
  pub none : (j : ℕ) → f j 0 ≡ 0
  pub adds : (j a b : ℕ) → f j (a + b) ≡ f j a + f j b

-- for the amount of an only arc
abbrev pub at_only : (ℕ → ℕ → ℕ) → ℕ → Option Arc → ℕ
at_only f n None = 0
at_only f n (Some arc) = f arc.server n

module _ (f : ℕ → ℕ → ℕ) (linear : IsLinear f) where
  -- what counts for a sum is the sum of what counts
  of_sum : {A : Type 0} (j : ℕ) (g : A → ℕ) (xs : List A) → f j (sum_by g xs) ≡ sum_by (λ x. f j (g x)) xs
  of_sum j g [] = linear.none j
  of_sum j g (x ∷ xs) =
      ap (f j) (sum_by-cons g x xs) ∙ linear.adds j (g x) (sum_by g xs)
      ∙ ap (λ v. f j (g x) + v) (of_sum j g xs) ∙ sym (sum_by-cons (λ x. f j (g x)) x xs)

  -- a condition may stand outside
  of_when : (j : ℕ) (t : Bool) (v : ℕ) → f j (when t v) ≡ when t (f j v)
  of_when j true v = refl
  of_when j false v = linear.none j

  -- what a row brings to its servers where it has only one, added up
  only_sum : (n : ℕ) (arcs : List Arc)
      → sum_by (λ (a : Arc). f a.server (brings n a.server (only_arc arcs))) arcs ≡ at_only f n (only_arc arcs)
  only_sum n [] = refl
  only_sum n (a ∷ []) =
      sum_by-cons (λ (b : Arc). f b.server (brings n b.server (Some a))) a []
      ∙ ap (λ v. f a.server v + 0) (when_here a.server n) ∙ omega arith
  only_sum n (a ∷ b ∷ more) =
      same_by (λ (c : Arc). f c.server 0) (λ c. 0) (a ∷ b ∷ more) (λ c. linear.none c.server)
      ∙ sum_by_none (a ∷ b ∷ more)

  module _ (at : Service) (plan : Best) where
    -- what a class has in all
    abbrev pub class_sum : Class → ℕ
    class_sum c = sum_by (λ (s : ℕ × ℕ). f s.0 s.1) (sends c)

    -- what the classes of a row send to a server
    abbrev from_classes : Row → ℕ → ℕ
    from_classes t j = sum_by (λ c. when (is_of at plan c t) (class_load j c)) plan.classes

    -- a class of the row has all it has at the row's servers
    of_one : (t : Row) (c : Class) → IsGiven c →
        sum_by (λ (a : Arc). when (is_of at plan c t) (f a.server (class_load a.server c))) (least_of at plan t)
        ≡ when (is_of at plan c t) (class_sum c)
    of_one t c given =
        sum_by_when (is_of at plan c t) (λ (a : Arc). f a.server (class_load a.server c)) (least_of at plan t)
        ∙ when_same (is_of at plan c t) _ _ (λ e.
        sym (sum_by_map (λ j. f j (class_load j c)) (λ (a : Arc). a.server) (least_of at plan t))
        ∙ ap (sum_by (λ j. f j (class_load j c))) (sym (of_class at plan c t e).1)
        ∙ class_sums f c given)

    -- what a row sends to its servers is what it has at an only one, and all that its classes have
    pub row_sum : AllByRecursion IsGiven plan.classes → (t : Row) →
        sum_by (λ (a : Arc). f a.server (row_load at plan a.server t + from_classes t a.server)) (least_of at plan t)
        ≡ at_only f t.count (only_arc (least_of at plan t))
        + sum_by (λ c. when (is_of at plan c t) (class_sum c)) plan.classes
    row_sum given t =
        same_by _ _ (least_of at plan t)
        (λ a. linear.adds a.server (row_load at plan a.server t) (from_classes t a.server))
        ∙ sum_by_add (λ (a : Arc). f a.server (row_load at plan a.server t))
        (λ (a : Arc). f a.server (from_classes t a.server)) (least_of at plan t)
        ∙ ap₂ (λ v w. v + w) (only_sum t.count (least_of at plan t))
        (same_by _ _ (least_of at plan t) (λ a.
        of_sum a.server (λ c. when (is_of at plan c t) (class_load a.server c)) plan.classes
        ∙ same_by _ _ plan.classes (λ c. of_when a.server (is_of at plan c t) (class_load a.server c)))
        ∙ sum_turned (λ (a : Arc) c. when (is_of at plan c t) (f a.server (class_load a.server c))) (least_of at plan t)
        plan.classes
        ∙ same_sum _ _ plan.classes (all_so IsGiven _ plan.classes (of_one t) given))

-- what a row of the table sends to a server
abbrev pub flow : Service → Best → Row → ℕ → ℕ
flow at plan t j = row_load at plan j t + sum_by (λ c. when (is_of at plan c t) (class_load j c)) plan.classes

-- ---- all rows of the table

-- the rows of the table of classes
abbrev pub class_table : Service → Best → List Row → List Row
class_table at plan rows = table_of (by_class at plan) rows

module _ (at : Service) (plan : Best) (is : IsService at) (rows : List Row) where
  -- a class with a row has one in the table
  in_table : (c : Class) → list_any (λ row. is_of at plan c row) rows ≡ true
      → list_any (λ row. is_of at plan c row) (class_table at plan rows) ≡ true
  in_table c e =
      table_any (by_class at plan) (classes_are_kinds at plan) (λ row. is_of at plan c row)
      (λ f x s own. alike_to at plan c f x s ∙ own) rows e

  -- what rows have by themselves, and classes once each
  in_all : (own : Row → ℕ) (all : Class → ℕ) (sum : Row → ℕ)
      → ((a b : Row) → is_same_class at plan a b ≡ true → own (with_count_of a b) ≡ own a + own b)
      → ((t : Row) → sum t ≡ own t + sum_by (λ c. when (is_of at plan c t) (all c)) plan.classes)
      → All (λ c. list_any (λ row. is_of at plan c row) rows ≡ true) plan.classes
      → sum_by sum (class_table at plan rows) ≡ sum_by own rows + sum_by all plan.classes
  in_all own all sum adds each least =
      same_by sum _ (class_table at plan rows) each
      ∙ sum_by_add own (λ t. sum_by (λ c. when (is_of at plan c t) (all c)) plan.classes) (class_table at plan rows)
      ∙ ap₂ (λ v w. v + w) (table_sum (by_class at plan) own adds rows)
      (sum_turned (λ t c. when (is_of at plan c t) (all c)) (class_table at plan rows) plan.classes
      ∙ same_sum _ _ plan.classes
      (all_so (λ c. list_any (λ row. is_of at plan c row) rows ≡ true) _ plan.classes
      (λ c e.
      sum_once (λ t. is_of at plan c t) (all c) (class_table at plan rows) (in_table c e)
      (once_apart (by_class at plan) (classes_are_kinds at plan) (λ t. is_of at plan c t) (same_of at plan c)
      (class_table at plan rows) (table_apart (by_class at plan) (classes_are_kinds at plan) rows)))
      (recursion_from_All (λ c. list_any (λ row. is_of at plan c row) rows ≡ true) plan.classes least)))

  -- ---- loads

  -- only one server
  at_server : (j n : ℕ) (o : Option Arc) → at_only (λ i v. when (i == j) v) n o ≡ brings n j o
  at_server j n None = refl
  at_server j n (Some arc) = refl

  -- what two rows of one class bring
  brings_adds : (j m n : ℕ) (o : Option Arc) → brings (m + n) j o ≡ brings m j o + brings n j o
  brings_adds j m n None = refl
  brings_adds j m n (Some arc) = grind arith

  -- so do the rows by their least servers
  joined_load : (j : ℕ) (a b : Row) → is_same_class at plan a b ≡ true
      → row_load at plan j (with_count_of a b) ≡ row_load at plan j a + row_load at plan j b
  joined_load j a b e =
      ap (λ arcs. brings (a.count + b.count) j (only_arc arcs)) (least_kept at plan a b)
      ∙ brings_adds j a.count b.count (only_arc (least_of at plan a))
      ∙ ap (λ arcs. brings a.count j (only_arc (least_of at plan a)) + brings b.count j (only_arc arcs))
      (same_least at plan is a b e)

  -- what counts at one server adds up
  at_one_server : (j : ℕ) → IsLinear (λ i v. when (i == j) v)
  at_one_server j = record { none = λ i. when_zero (i == j); adds = λ i a b. grind arith }

  -- the rows of the table bring to a server what rows and classes bring
  pub loads : (j : ℕ) → AllByRecursion IsGiven plan.classes
      → All (λ c. list_any (λ row. is_of at plan c row) rows ≡ true) plan.classes →
      sum_by (λ t. sum_by (λ (a : Arc). when (a.server == j) (flow at plan t a.server)) (least_of at plan t))
      (class_table at plan rows)
      ≡ sum_by (row_load at plan j) rows + sum_by (class_load j) plan.classes
  loads j given least =
      in_all (row_load at plan j) (class_load j) _ (joined_load j) (λ t.
      row_sum (λ i v. when (i == j) v) (at_one_server j) at plan given t
      ∙ ap (λ v. v + sum_by (λ c. when (is_of at plan c t) (class_load j c)) plan.classes)
      (at_server j t.count (only_arc (least_of at plan t)))) least

  -- ---- costs

  -- only one arc
  at_cost : (region : List ℕ) (n : ℕ) (arcs : List Arc) → AllByRecursion (IsOwn at region) arcs
      → at_only (λ i v. cost_at at region i * v) n (only_arc arcs) ≡ costs n (only_arc arcs)
  at_cost region n [] own = refl
  at_cost region n (a ∷ []) own = ap (λ (b : Arc). b.cost * n) (sym own.0.same)
  at_cost region n (a ∷ b ∷ more) own = refl

  -- what two rows of one class cost
  costs_add : (m n : ℕ) (o : Option Arc) → costs (m + n) o ≡ costs m o + costs n o
  costs_add m n None = refl
  costs_add m n (Some arc) = mul-add arc.cost m n

  -- so do the rows by their least arcs
  joined_cost : (a b : Row) → is_same_class at plan a b ≡ true
      → row_cost at plan (with_count_of a b) ≡ row_cost at plan a + row_cost at plan b
  joined_cost a b e =
      ap (λ arcs. costs (a.count + b.count) (only_arc arcs)) (least_kept at plan a b)
      ∙ costs_add a.count b.count (only_arc (least_of at plan a))
      ∙ ap (λ arcs. costs a.count (only_arc (least_of at plan a)) + costs b.count (only_arc arcs))
      (same_least at plan is a b e)

  -- what is paid adds up
  at_costs : (region : List ℕ) → IsLinear (λ i v. cost_at at region i * v)
  at_costs region =
      record { none = λ i. mul-zero (cost_at at region i); adds = λ i a b. mul-add (cost_at at region i) a b }

  -- a class of the row costs what it costs from its region
  class_costs : (t : Row) (c : Class) →
      when (is_of at plan c t) (sum_by (λ (s : ℕ × ℕ). cost_at at t.region s.0 * s.1) (sends c))
      ≡ when (is_of at plan c t) (class_cost at c)
  class_costs t c =
      when_same (is_of at plan c t) _ _
      (λ e.
      ap (λ region. sum_by (λ (s : ℕ × ℕ). cost_at at region s.0 * s.1) (sends c)) (sym (of_class at plan c t e).0))

  -- the rows of the table cost what rows and classes cost
  pub total_cost : AllByRecursion IsGiven plan.classes
      → All (λ c. list_any (λ row. is_of at plan c row) rows ≡ true) plan.classes →
      sum_by (λ t. sum_by (λ (a : Arc). a.cost * flow at plan t a.server) (least_of at plan t))
      (class_table at plan rows)
      ≡ sum_by (row_cost at plan) rows + sum_by (class_cost at) plan.classes
  total_cost given least =
      in_all (row_cost at plan) (class_cost at) _ joined_cost (λ t.
      same_sum (λ (a : Arc). a.cost * flow at plan t a.server)
      (λ (a : Arc). cost_at at t.region a.server * flow at plan t a.server) (least_of at plan t)
      (all_so (IsOwn at t.region) _ (least_of at plan t)
      (λ a own. ap (λ (b : Arc). b.cost * flow at plan t a.server) own.same) (own_least at plan is t))
      ∙ row_sum (λ i v. cost_at at t.region i * v) (at_costs t.region) at plan given t
      ∙ ap₂ (λ v w. v + w) (at_cost t.region t.count (least_of at plan t) (own_least at plan is t))
      (same_by _ _ plan.classes (class_costs t))) least
