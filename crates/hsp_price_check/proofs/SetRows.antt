-- What a row adds to what a short set is asked for.
use Rattle.std.proofs.Common.{◌≡◌, ◌∙◌, ◌+◌, ℕ, Bool, true, false, List, [], ◌∷◌, ◌++◌, length, min}
use Rattle.std.proofs.Common.{if◌then◌else◌, refl, ap, sym, arith}
use Rattle.std.proofs.lemmas.List.Sums.{sum_by-append}
use Rattle.std.specs.List.{AllByRecursion, list_all}
use Rattle.hsp_instance.specs.Instance.{Row}
use Rattle.hsp_instance.specs.RowArcs.{IsWithin}
use Rattle.hsp_instance.specs.declared.arc.Arc.{Arc}
use Rattle.hsp_check.specs.ArcFlows.{flag_at}
use Rattle.hsp_check.specs.Lists.{AreFlagsOf}
use Rattle.hsp_check.specs.Verdict.{is_one_of}
use Rattle.hsp_prices.specs.Rows.{Service}
use Rattle.hsp_price_text.specs.Claim.{Short}
use Rattle.hsp_prices.specs.Least.{arcs_of}
use Rattle.hsp_prices.specs.Sums.{caught_count, caught_in_all}
use Rattle.hsp_price_check.specs.Passed.{capped}
use Rattle.hsp_price_check.specs.PlanPass.{IsOfRow}
use Rattle.hsp_price_check.specs.SetPass.{IsSetPass}
use Rattle.hsp_price_check.specs.declared.set_pass.SetPass.{SetPass}

-- flags of a set say of arcs what the set says
caught_by : (set : ℕ → Bool) (flags : List Bool) (count : ℕ) → AreFlagsOf set count flags → (arcs : List Arc)
    → AllByRecursion (IsWithin count) arcs
    → list_all (λ arc. flag_at flags arc.server) arcs ≡ list_all (λ arc. set arc.server) arcs
caught_by set flags count are [] within = refl
caught_by set flags count are (arc ∷ arcs) within =
    let first = are arc.server within.0.server in
    let rest = caught_by set flags count are arcs within.1 in
    grind (arith, first, rest)

-- what is kept of a sum goes on where a test passes
more : (t : Bool) (x o n count : ℕ) → o ≡ capped x
    → n ≡ (if t then min (o + count) 340282366920938463463374607431768211455 else o)
    → n ≡ capped (x + (if t then count else 0))
more true x o n count e f = omega arith
more false x o n count e f = omega (arith, e, f)

-- a pass over one row more
pub set_more : (at : Service) (set : Short) (rows : List Row) (row : Row) (pass : SetPass) (arcs : List Arc)
    (count demand : ℕ) (caught : Bool) → IsSetPass at set rows pass → IsOfRow at row row.region arcs count
    → AllByRecursion (IsWithin (length pass.flags.items)) arcs
    → caught ≡ list_all (λ arc. flag_at pass.flags.items arc.server) arcs
    → demand
    ≡ (if caught then min (pass.demand + count) 340282366920938463463374607431768211455 else pass.demand)
    → IsSetPass at set (rows ++ row ∷ [])
    (record { set = pass.set; flags = pass.flags; capacity = pass.capacity; demand = demand })
set_more at set rows row pass arcs count demand caught is of within test demand-is =
    let within' : AllByRecursion (IsWithin (length at.servers)) arcs = rw (← is.flags_many) within in
    let same : caught ≡ list_all (λ arc. is_one_of set.servers arc.server) (arcs_of at row) =
    test ∙ caught_by (is_one_of set.servers) pass.flags.items (length at.servers) is.flags arcs within'
    ∙ ap (λ list. list_all (λ (arc : Arc). is_one_of set.servers arc.server) list) (sym of.arcs_are) in
    let own : (if caught then count else 0) ≡ caught_count at set.servers row =
    rw (← same, of.count_is) refl in
    let all : caught_in_all at set.servers (rows ++ row ∷ [])
    ≡ caught_in_all at set.servers rows + caught_count at set.servers row =
    omega (arith, sum_by-append (caught_count at set.servers) rows (row ∷ [])) in
    record {
      set_is = is.set_is;
      there = is.there;
      flags_many = is.flags_many;
      flags = is.flags;
      capacity = is.capacity;
      demand =
          more caught (caught_in_all at set.servers rows) pass.demand demand count is.demand demand-is
          ∙ ap (λ n. capped (caught_in_all at set.servers rows + n)) own ∙ ap capped (sym all);
    }
