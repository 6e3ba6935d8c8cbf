-- The region of a row with an arc has a name, and the servers of its arcs ascend.
use Rattle.std.proofs.Common.{◌≡◌, ◌≤◌, ◌<◌, ◌+◌, ◌∙◌, ◌++◌, ℕ, Bool, true, inl, inr, List, [], ◌∷◌, Option, Some, None}
use Rattle.std.proofs.Common.{ap, arith, filter, length, lt-ltb, nat_lt, refl, subst, sym}
use Rattle.std.specs.Prelude.{cond, option_map}
use Rattle.std.specs.List.{AllByRecursion, find}
use Rattle.std.proofs.lemmas.Bool.{and_from, cases_Bool}
use Rattle.std.proofs.lemmas.Nat.{mod_below}
use Rattle.hsp_text.specs.Name.{is_name}
use Rattle.hsp_hash.specs.Place.{server_place}
use Rattle.hsp_tables.specs.Costs.{CostEntry, IsCostEntry}
use Rattle.hsp_cert.specs.Certificate.{ascends_from, goes_on_from}
use Rattle.hsp_instance.specs.Building.{arc_to, arcs_from, cost_of, is_cost_of}
use Rattle.hsp_instance.specs.Instance.{HasServer, Row, Site}
use Rattle.hsp_instance.specs.declared.arc.Arc.{Arc}
use Rattle.hsp_prices.proofs.Tabling.{both_equal}
use Rattle.hsp_prices.specs.Least.{servers_of}

-- a region that has a cost has a name
region_named : (costs : List CostEntry) → AllByRecursion IsCostEntry costs → (region name : List ℕ) (c : ℕ)
    → cost_of costs region name ≡ Some c → is_name region ≡ true
region_named [] each region name c is = cc
region_named (entry ∷ costs) each region name c is = elim (cases_Bool (is_cost_of region name entry)) [
  | inl own ↦
      subst (λ r. is_name r ≡ true) ((both_equal entry.region region entry.site name).0 own).0 each.0.region
  | inr other ↦
      region_named costs each.1 region name c
      (sym
      (ap
      (λ b.
      option_map (λ (e : CostEntry). e.cost) (cond b (Some entry) (find (is_cost_of region name) costs))) other)
      ∙ is)
]

-- a server, if there is one, is below a number
abbrev IsBelow : Option ℕ → ℕ → Type 0
IsBelow None n = Unit {0}
IsBelow (Some j) n = j < n

-- and below a greater one
below_on : (last : Option ℕ) (m n : ℕ) → m ≤ n → IsBelow last m → IsBelow last n
below_on None m n le below = tt
below_on (Some j) m n le below = omega (arith, le, below)

-- so that may follow
follows : (last : Option ℕ) (m n : ℕ) → m ≤ n → IsBelow last m → goes_on_from nat_lt last n ≡ true
follows None m n le below = refl
follows (Some j) m n le below = lt-ltb j n (omega (arith, le, below))

module _ (costs : List CostEntry) (row : Row) where
  -- a row with an arc is of a region with a name
  pub row_named : AllByRecursion IsCostEntry costs → (n first : ℕ) (sites : List Site)
      → 0 < length (arcs_from costs row n first sites) → is_name row.region ≡ true
  row_named each n first [] some = absurd (omega (arith, some))
  row_named each n first (site ∷ more) some =
      by (row_named each (n + 1) (first + length site.servers) more) (cost_of costs row.region site.name) refl some
    where
      rest : List Arc
      rest = arcs_from costs row (n + 1) (first + length site.servers) more

      by : (0 < length rest → is_name row.region ≡ true) → (cost : Option ℕ)
          → cost_of costs row.region site.name ≡ cost → 0 < length (arc_to row.handle n first site cost ++ rest)
          → is_name row.region ≡ true
      by later None is there = later there
      by later (Some c) is there = region_named costs each row.region site.name c is

  -- the servers of some of its arcs ascend
  pub servers_up : (test : Arc → Bool) (last : Option ℕ) (n first : ℕ) (sites : List Site) → IsBelow last first
      → AllByRecursion HasServer sites
      → ascends_from nat_lt last (servers_of (filter test (arcs_from costs row n first sites))) ≡ true
  servers_up test last n first [] below have = refl
  servers_up test last n first (site ∷ more) below have =
      by (λ l under. servers_up test l (n + 1) (first + length site.servers) more under have.1)
      (cost_of costs row.region site.name)
    where
      next : ℕ
      next = first + length site.servers

      rest : List Arc
      rest = arcs_from costs row (n + 1) next more

      by : ((l : Option ℕ) → IsBelow l next → ascends_from nat_lt l (servers_of (filter test rest)) ≡ true)
          → (cost : Option ℕ)
          → ascends_from nat_lt last (servers_of (filter test (arc_to row.handle n first site cost ++ rest))) ≡ true
      by later None = later last (below_on last first next (omega arith) below)
      by later (Some c) =
          let place = server_place site.option row.handle (length site.servers) in
          let inside : place < length site.servers = mod_below _ (length site.servers) have.0 in
          let arc : Arc = record { site = n; server = first + place; cost = c } in
          elim (cases_Bool (test arc)) [
            | inl passes ↦
                rw passes
                (and_from (goes_on_from nat_lt last (first + place))
                (ascends_from nat_lt (Some (first + place)) (servers_of (filter test rest)))
                (follows last first (first + place) (omega arith) below)
                (later (Some (first + place)) (omega (arith, inside))))
            | inr not ↦ rw not (later last (below_on last first next (omega arith) below))
          ]
