-- What the classes of a plan bring to servers and cost.
use Rattle.std.proofs.Common.{◌≡◌, ◌≢◌, ◌+◌, ◌^◌, ◌<◌, ◌≤◌, ◌∙◌, ◌⊎◌, ℕ, List, [], ◌∷◌, length, slice_index, slice_set}
use Rattle.std.proofs.Common.{sum_by, if◌then◌else◌, inl, inr, refl, ap, sym, arith, eq-eqb, ne_eqb, get_or-set_other}
use Rattle.std.proofs.Common.{get_or-set_same, Option, None, Some}
use Rattle.std.specs.Prelude.{◌==◌, option_map, slice_get}
use Rattle.std.specs.List.{zip}
use Rattle.std.specs.Option.{unwrap_or}
use Rattle.std.proofs.lemmas.Bool.{cases_eq}
use Rattle.hsp_tables.specs.Costs.{AreCosts, CostEntry, IsCostEntry}
use Rattle.hsp_text.specs.declared.limits.TheConstants.{GREATEST_COST}
use Rattle.hsp_instance.specs.Building.{cost_of, is_cost_of}
use Rattle.hsp_instance.specs.Instance.{Server, Site}
use Rattle.hsp_instance.proofs.Lists.{found_within}
use Rattle.hsp_prices.specs.Rows.{Service}
use Rattle.hsp_prices.specs.Sums.{cost_at, cost_or_none, server_cost, site_cost}
use Rattle.hsp_price_check.specs.Passed.{capped}
use Rattle.hsp_price_check.proofs.Capping.{term_added, term_skipped}

-- one list with nothing left has no pair left
pub none_left : {A B : Type 0} (xs : List A) (ys : List B) → (length xs ≡ 0) ⊎ (length ys ≡ 0) → zip xs ys ≡ []
none_left [] ys none = refl
none_left (x ∷ xs) [] none = refl
none_left (x ∷ xs) (y ∷ ys) (inl none) = absurd (omega arith)
none_left (x ∷ xs) (y ∷ ys) (inr none) = absurd (omega arith)

-- what a pair of a server and its amount brings to a server
abbrev pub brought : ℕ → ℕ × ℕ → ℕ
brought j sent = if sent.0 == j then sent.1 else 0

-- one server of a class has its amount
pub load_step : (loads : List ℕ) (at amount j all : ℕ) (rest : List (ℕ × ℕ)) → at < length loads
    → capped (slice_index loads j + sum_by (brought j) ((at, amount) ∷ rest)) ≡ capped all
    → capped (slice_index (slice_set loads at (capped (slice_index loads at + amount))) j + sum_by (brought j) rest)
    ≡ capped all
load_step loads at amount j all rest inside so = elim (cases_eq at j) [
  | inl same ↦
      let term : amount ≡ brought j (at, amount) = rw (eq-eqb at j same) refl in
      let here : slice_index (slice_set loads at (capped (slice_index loads at + amount))) j
      ≡ capped (slice_index loads j + amount) =
      rw (← same) (get_or-set_same loads at (capped (slice_index loads at + amount)) 0 inside) in
      rw here (term_added (brought j) (at, amount) rest (slice_index loads j) amount all term so)
  | inr other ↦
      let apart : j ≢ at = λ q. other (sym q) in
      let term : brought j (at, amount) ≡ 0 = rw (ne_eqb at j other) refl in
      let here = get_or-set_other loads at j (capped (slice_index loads at + amount)) 0 apart in
      rw here (term_skipped (brought j) (at, amount) rest (slice_index loads j) all term so)
]

module _ (at : Service) (region : List ℕ) where
  -- the site that is found is the server's
  server_is : (o : Option Server) (site : ℕ) → option_map (λ (s : Server). s.site) o ≡ Some site
      → server_cost at region o ≡ site_cost at region (slice_get at.sites site)
  server_is None site is = cc
  server_is (Some server) site is =
      let same : server.site ≡ site = cc in ap (λ n. site_cost at region (slice_get at.sites n)) same

  -- and its name is the one that a cost is stated for
  site_is : (o : Option Site) (name : List ℕ) → option_map (λ (s : Site). s.name) o ≡ Some name
      → site_cost at region o ≡ cost_or_none (cost_of at.costs region name)
  site_is None name is = cc
  site_is (Some site) name is =
      let same : site.name ≡ name = cc in ap (λ n. cost_or_none (cost_of at.costs region n)) same

  -- a cost that is stated, or 0
  or_none : (o : Option ℕ) → unwrap_or o 0 ≡ cost_or_none o
  or_none None = refl
  or_none (Some cost) = refl

  -- the cost at the site of a server is the one at the server
  pub cost_is : (j site : ℕ) (name : List ℕ)
      → option_map (λ (s : Server). s.site) (slice_get at.servers j) ≡ Some site
      → option_map (λ (s : Site). s.name) (slice_get at.sites site) ≡ Some name
      → unwrap_or (cost_of at.costs region name) 0 ≡ cost_at at region j
  cost_is j site name server_at site_at =
      or_none (cost_of at.costs region name) ∙ sym (site_is (slice_get at.sites site) name site_at)
      ∙ sym (server_is (slice_get at.servers j) site server_at)

-- no cost is above the greatest one
pub cost_low : (costs : List CostEntry) (region name : List ℕ) → AreCosts costs
    → unwrap_or (cost_of costs region name) 0 ≤ GREATEST_COST
cost_low costs region name are = low (cost_of costs region name) refl
  where
    low : (o : Option ℕ) → cost_of costs region name ≡ o → unwrap_or o 0 ≤ GREATEST_COST
    low None is = omega arith
    low (Some cost) is =
        found_within IsCostEntry GREATEST_COST (λ (row : CostEntry). row.cost) (is_cost_of region name) costs cost
        (λ row is. is.cost) are.keyed.each is

-- a number below a bound is written among such numbers
pub set_small : (numbers : List ℕ) (at number j bound : ℕ) → at < length numbers → number < bound
    → slice_index numbers j < bound → slice_index (slice_set numbers at number) j < bound
set_small numbers at number j bound inside low all = elim (cases_eq at j) [
  | inl same ↦ rw (← same, get_or-set_same numbers at number 0 inside) low
  | inr other ↦ let apart : j ≢ at = λ q. other (sym q) in rw (get_or-set_other numbers at j number 0 apart) all
]

-- where no pair is left, the sum so far is all
pub all_added : {A B : Type 0} (f : A × B → ℕ) (xs : List A) (ys : List B) (sum all : ℕ)
    → (length xs ≡ 0) ⊎ (length ys ≡ 0) → sum < 2 ^ 128 → capped (sum + sum_by f (zip xs ys)) ≡ capped all
    → sum ≡ capped all
all_added f xs ys sum all none low so =
    let last : capped (sum + 0) ≡ capped all = rw (none_left xs ys none) at so in omega (arith, last, low)
