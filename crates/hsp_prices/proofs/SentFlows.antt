-- What a flow that meets the network of groups sends from each of them.
use Rattle.std.proofs.Common.{◌≡◌, ℕ, suc, ◌+◌, ◌<◌, ◌≤◌, ◌==◌, ◌∙◌, List, [], ◌∷◌, ◌++◌, length, map, take, drop, true}
use Rattle.std.proofs.Common.{sum_by, zip, Some, refl, ap, ap₂, sym, subst, arith, add-zero}
use Rattle.std.proofs.Common.{slice_index}
use Rattle.std.specs.List.{AllByRecursion, flat_map, slice_get}
use Rattle.std.proofs.lemmas.List.{length-append, length-drop, length-map, length-take}
use Rattle.std.proofs.lemmas.List.Sums.{sum_by-append, sum_by-cons}
use Rattle.std.proofs.lemmas.Slice.Zip.{firsts-zip}
use Rattle.hsp_text.proofs.Lists.{all_front, all_back}
use Rattle.hsp_transport.proofs.Rowwise.{same_by, sum_by_none, when, when_here, when_there}
use Rattle.hsp_transport.proofs.Summing.{sum_by_map}
use Rattle.hsp_instance.specs.declared.arc.Arc.{Arc}
use Rattle.hsp_instance.proofs.Lists.{all_map, all_so}
use Rattle.hsp_check.specs.declared.arc.NetworkArc.{NetworkArc}
use Rattle.hsp_check.specs.Instance.{arc_of, arcs_from}
use Rattle.hsp_prices.specs.Rows.{Service}
use Rattle.hsp_price_text.specs.Claim.{Best}
use Rattle.hsp_prices.specs.Least.{is_least, pay_over, price_at}
use Rattle.hsp_prices.specs.Groups.{Group}
use Rattle.hsp_prices.specs.Solved.{flows_by}
use Rattle.hsp_prices.proofs.Beside.{all_given, zip_append, zip_map}
use Rattle.hsp_prices.proofs.RowLeast.{low_least}

-- the arcs of each group
abbrev pub lists_of : List Group → List (List Arc)
lists_of groups = map (λ (group : Group). group.arcs) groups

-- all of them, one group after another
abbrev pub all_arcs : List Group → List Arc
all_arcs groups = flat_map (λ (group : Group). group.arcs) groups

-- each group, with its own flows
abbrev pub sent_of : List Group → List ℕ → List (Group × List ℕ)
sent_of groups flows = zip groups (flows_by groups flows)

-- each arc of a group, with what flows on it
abbrev pub own_of : Group × List ℕ → List (Arc × ℕ)
own_of sent = zip sent.0.arcs sent.1

-- each group has flows of its own
pub flows_many : (groups : List Group) (flows : List ℕ) → length (flows_by groups flows) ≡ length groups
flows_many [] flows = refl
flows_many (group ∷ groups) flows = ap suc (flows_many groups (drop (length group.arcs) flows))

-- the groups, each with its flows
pub firsts : (groups : List Group) (flows : List ℕ)
    → map (λ (own : Group × List ℕ). own.0) (sent_of groups flows) ≡ groups
firsts groups flows = firsts-zip groups (flows_by groups flows) (flows_many groups flows)

-- what holds of each group holds of it with its flows
pub of_sent : (P : Group → Type 0) (groups : List Group) (flows : List ℕ) → AllByRecursion P groups
    → AllByRecursion (λ (own : Group × List ℕ). P own.0) (sent_of groups flows)
of_sent P groups flows all =
    all_given P (λ (own : Group × List ℕ). own.0) (sent_of groups flows)
    (subst (AllByRecursion P) (sym (firsts groups flows)) all)

-- and the other way round
pub from_sent : (P : Group → Type 0) (groups : List Group) (flows : List ℕ)
    → AllByRecursion (λ (own : Group × List ℕ). P own.0) (sent_of groups flows) → AllByRecursion P groups
from_sent P groups flows all =
    subst (AllByRecursion P) (firsts groups flows)
    (all_map (λ (own : Group × List ℕ). P own.0) P (λ own. own.0) (sent_of groups flows) (λ own p. p) all)

-- a column of the network's arcs is one of the groups' arcs
pub same_column : {A : Type 0} (f : NetworkArc → A) (g : Arc → A) → ((i : ℕ) (a : Arc) → f (arc_of i a) ≡ g a)
    → (i : ℕ) (groups : List Group) → map f (arcs_from i (lists_of groups)) ≡ map g (all_arcs groups)
same_column f g same i [] = refl
same_column {A} f g same i (group ∷ groups) = own group.arcs (same_column f g same (i + 1) groups)
  where
    own : (arcs : List Arc) → map f (arcs_from (i + 1) (lists_of groups)) ≡ map g (all_arcs groups)
        → map f (map (arc_of i) arcs ++ arcs_from (i + 1) (lists_of groups)) ≡ map g (arcs ++ all_arcs groups)
    own [] more = more
    own (a ∷ arcs) more = ap₂ (λ x xs. x ∷ xs) (same i a) (own arcs more)

-- there are as many
pub same_many : (i : ℕ) (groups : List Group) → length (arcs_from i (lists_of groups)) ≡ length (all_arcs groups)
same_many i groups =
    sym (length-map (arcs_from i (lists_of groups)) (λ (a : NetworkArc). a.server))
    ∙ ap length (same_column (λ a. a.server) (λ a. a.server) (λ i a. refl) i groups)
    ∙ length-map (all_arcs groups) (λ (a : Arc). a.server)

-- a sum over all arcs and their flows is one over the groups of the sums over their own
pub sum_sent : (w : Arc × ℕ → ℕ) (groups : List Group) (flows : List ℕ)
    → sum_by w (zip (all_arcs groups) flows) ≡ sum_by (λ sent. sum_by w (own_of sent)) (sent_of groups flows)
sum_sent w [] flows = refl
sum_sent w (group ∷ groups) flows =
    let own = take (length group.arcs) flows in
    let rest = drop (length group.arcs) flows in
    ap (sum_by w) (zip_append group.arcs (all_arcs groups) flows)
    ∙ sum_by-append w (zip group.arcs own) (zip (all_arcs groups) rest)
    ∙ ap (λ v. sum_by w (zip group.arcs own) + v) (sum_sent w groups rest)
    ∙ sym (sum_by-cons (λ (sent : Group × List ℕ). sum_by w (own_of sent)) (group, own) (sent_of groups rest))

-- ---- what each group sends

-- what counts for a source of what flows on an arc
abbrev from_source : ℕ → NetworkArc × ℕ → ℕ
from_source i x = when (x.0.row == i) x.1

-- the arcs of a source count in full for it
own_source : (i : ℕ) (arcs : List Arc) (flows : List ℕ)
    → sum_by (from_source i) (zip (map (arc_of i) arcs) flows) ≡ sum_by (λ (x : Arc × ℕ). x.1) (zip arcs flows)
own_source i arcs flows =
    ap (sum_by (from_source i)) (zip_map (arc_of i) arcs flows)
    ∙ sum_by_map (from_source i) (λ (x : Arc × ℕ). (arc_of i x.0, x.1)) (zip arcs flows)
    ∙ same_by _ _ (zip arcs flows) (λ x. when_here i x.1)

-- and nothing for another
other_source : (i k : ℕ) → (i ≡ k → ⊥) → (arcs : List Arc) (flows : List ℕ)
    → sum_by (from_source k) (zip (map (arc_of i) arcs) flows) ≡ 0
other_source i k ne arcs flows =
    ap (sum_by (from_source k)) (zip_map (arc_of i) arcs flows)
    ∙ sum_by_map (from_source k) (λ (x : Arc × ℕ). (arc_of i x.0, x.1)) (zip arcs flows)
    ∙ same_by _ (λ x. 0) (zip arcs flows) (λ x. when_there i k x.1 ne)
    ∙ sum_by_none (zip arcs flows)

-- the arcs of one source and of those behind it, counted for a source
from_parts : (k i : ℕ) (arcs : List Arc) (lists : List (List Arc)) (flows : List ℕ) →
    sum_by (from_source k) (zip (arcs_from i (arcs ∷ lists)) flows)
    ≡ sum_by (from_source k) (zip (map (arc_of i) arcs) (take (length arcs) flows))
    + sum_by (from_source k) (zip (arcs_from (i + 1) lists) (drop (length arcs) flows))
from_parts k i arcs lists flows =
    ap (sum_by (from_source k)) (zip_append (map (arc_of i) arcs) (arcs_from (i + 1) lists) flows)
    ∙ sum_by-append (from_source k) (zip (map (arc_of i) arcs) (take (length (map (arc_of i) arcs)) flows))
    (zip (arcs_from (i + 1) lists) (drop (length (map (arc_of i) arcs)) flows))
    ∙ ap
    (λ n. sum_by (from_source k) (zip (map (arc_of i) arcs) (take n flows))
    + sum_by (from_source k) (zip (arcs_from (i + 1) lists) (drop n flows))) (length-map arcs (arc_of i))

-- sources behind one have nothing for it
none_behind : (k i : ℕ) (lists : List (List Arc)) (flows : List ℕ) → k < i
    → sum_by (from_source k) (zip (arcs_from i lists) flows) ≡ 0
none_behind k i [] flows less = refl
none_behind k i (arcs ∷ lists) flows less =
    omega (
      arith,
      from_parts k i arcs lists flows,
      other_source i k (λ e. omega arith) arcs (take (length arcs) flows),
      none_behind k (i + 1) lists (drop (length arcs) flows) (omega arith),
    )

module _ (at : Service) (plan : Best) where
  -- an arc of the network pays no less than its source by these prices, and as much where something flows on it
  abbrev pub Fits : List ℕ → NetworkArc × ℕ → Type 0
  Fits u x =
      (slice_index u x.0.row ≤ x.0.cost + price_at at plan x.0.server)
      × (0 < x.1 → slice_index u x.0.row ≡ x.0.cost + price_at at plan x.0.server)

  -- the same of an arc of a group
  abbrev FitsOwn : ℕ → Arc × ℕ → Type 0
  FitsOwn v x = (v ≤ pay_over at plan x.0) × (0 < x.1 → v ≡ pay_over at plan x.0)

  -- what flows from a group is its demand, and flows over its least arcs
  pub record IsSent (sent : Group × List ℕ) : Type 0 where
    pub met : sum_by (λ (x : Arc × ℕ). x.1) (own_of sent) ≡ sent.0.demand
    pub least : AllByRecursion (λ (x : Arc × ℕ). 0 < x.1 → is_least (pay_over at plan) sent.0.arcs x.0 ≡ true)
        (own_of sent)

  -- no arc pays less
  all_low : (v : ℕ) (arcs : List Arc) (flows : List ℕ) → length flows ≡ length arcs
      → AllByRecursion (FitsOwn v) (zip arcs flows) → AllByRecursion (λ a. v ≤ pay_over at plan a) arcs
  all_low v [] flows many fit = tt
  all_low v (a ∷ arcs) [] many fit = absurd (omega arith)
  all_low v (a ∷ arcs) (f ∷ flows) many fit = (fit.0.0, all_low v arcs flows (omega arith) fit.1)

  -- so what flows does over least arcs
  all_least : (v : ℕ) (arcs : List Arc) (flows : List ℕ) → length flows ≡ length arcs
      → AllByRecursion (FitsOwn v) (zip arcs flows)
      → AllByRecursion (λ (x : Arc × ℕ). 0 < x.1 → is_least (pay_over at plan) arcs x.0 ≡ true) (zip arcs flows)
  all_least v arcs flows many fit =
      all_so (FitsOwn v) _ (zip arcs flows)
      (λ x own some.
      low_least (pay_over at plan) v x.0 arcs (omega (arith, own.1 some)) (all_low v arcs flows many fit)) fit

  -- each group sends what it asks for, over its least arcs
  pub each_sent : (u : List ℕ) (i : ℕ) (groups : List Group) (flows : List ℕ)
      → length flows ≡ length (arcs_from i (lists_of groups))
      → ((k : ℕ) (group : Group) → slice_get groups k ≡ Some group
      → sum_by (from_source (i + k)) (zip (arcs_from i (lists_of groups)) flows) ≡ group.demand)
      → AllByRecursion (Fits u) (zip (arcs_from i (lists_of groups)) flows)
      → AllByRecursion IsSent (sent_of groups flows)
  each_sent u i [] flows many met fit = tt
  each_sent u i (group ∷ groups) flows many met fit =
      let arcs = group.arcs in
      let later = arcs_from (i + 1) (lists_of groups) in
      let own = take (length arcs) flows in
      let rest = drop (length arcs) flows in
      let long : length flows ≡ length arcs + length later =
      many ∙ length-append (map (arc_of i) arcs) later ∙ ap (λ n. n + length later) (length-map arcs (arc_of i)) in
      let own_many : length own ≡ length arcs = omega (arith, long, length-take (length arcs) flows) in
      let rest_many : length rest ≡ length later = omega (arith, long, length-drop (length arcs) flows) in
      let split
      : zip (arcs_from i (lists_of (group ∷ groups))) flows ≡ zip (map (arc_of i) arcs) own ++ zip later rest =
      zip_append (map (arc_of i) arcs) later flows
      ∙ ap (λ n. zip (map (arc_of i) arcs) (take n flows) ++ zip later (drop n flows)) (length-map arcs (arc_of i)) in
      let fits = subst (AllByRecursion (Fits u)) split fit in
      let own_fit : AllByRecursion (FitsOwn (slice_index u i)) (zip arcs own) =
      all_given (Fits u) (λ (x : Arc × ℕ). (arc_of i x.0, x.1)) (zip arcs own)
      (subst (AllByRecursion (Fits u)) (zip_map (arc_of i) arcs own)
      (all_front (Fits u) (zip (map (arc_of i) arcs) own) (zip later rest) fits)) in (
        record {
          met =
              let first = met 0 group refl in
              let here = rw add-zero at first in
              omega (
                arith,
                here,
                from_parts i i arcs (lists_of groups) flows,
                own_source i arcs own,
                none_behind i (i + 1) (lists_of groups) rest (omega arith),
              );
          least = all_least (slice_index u i) arcs own own_many own_fit;
        },
        each_sent u (i + 1) groups rest rest_many
            (λ k g at.
            let e : i + 1 + k ≡ i + suc k = omega arith in
            omega (
              arith,
              ap (λ n. sum_by (from_source n) (zip later rest)) e,
              met (suc k) g at,
              from_parts (i + suc k) i arcs (lists_of groups) flows,
              other_source i (i + suc k) (λ e. omega arith) arcs own,
            )) (all_back (Fits u) (zip (map (arc_of i) arcs) own) (zip later rest) fits),
      )
