-- A short set of a network's sources is a valid certificate's short set of rows.
use Rattle.std.proofs.Common.{◌≡◌, ℕ, zero, suc, ◌+◌, ◌<◌, ◌==◌, ◌∙◌, Bool, true, false, List, [], ◌∷◌, length}
use Rattle.std.proofs.Common.{slice_index_or, refl, ap, sym, inl, inr, arith, eq-eqb, ne_eqb, zero-add}
use Rattle.std.specs.Prelude.{◌&&◌, ◌||◌}
use Rattle.std.specs.List.{AllByRecursion, list_any}
use Rattle.std.proofs.lemmas.List.Elements.{All-from_recursion}
use Rattle.std.proofs.lemmas.List.{length-map}
use Rattle.std.proofs.lemmas.Bool.{cases_Bool}
use Rattle.hsp_instance.specs.Instance.{Instance, Row}
use Rattle.hsp_check.specs.Instance.{arcs_from, demands_in, network_of}
use Rattle.hsp_check.specs.Verdict.{is_one_of}
use Rattle.hsp_check.specs.Valid.{IsValidSet}
use Rattle.hsp_network.specs.Network.{numbered}
use Rattle.hsp_transport.specs.Cut.{IsShort, capacity_of, demand_of}
use Rattle.hsp_transport.specs.Lists.{flag_at}
use Rattle.hsp_flow.specs.Planning.{transport_of, flagged_from}
use Rattle.hsp_flow.proofs.Carrying.{capacity_is, demand_is}
use Rattle.hsp_instance.proofs.Lists.{all_so}

-- whether a number is among the flagged ones, by the first flag
in_flags : (i k : ℕ) (flag : Bool) (flags : List Bool) →
    list_any (λ r. r == i) (flagged_from k (flag ∷ flags))
    ≡ ((flag && k == i) || list_any (λ r. r == i) (flagged_from (k + 1) flags))
in_flags i k true flags = refl
in_flags i k false flags = refl

-- a row that is not asked for changes nothing
no_flag : (flag rest : Bool) → ((flag && false) || rest) ≡ rest
no_flag true rest = refl
no_flag false rest = refl

-- a row is flagged by its own flag
own_flag : (flag : Bool) → ((flag && true) || false) ≡ flag
own_flag true = refl
own_flag false = refl

-- rows from a number on are not those before it
not_later : (k : ℕ) (flags : List Bool) (i : ℕ) → i < k → list_any (λ r. r == i) (flagged_from k flags) ≡ false
not_later k [] i l = refl
not_later k (flag ∷ flags) i l =
    let rest = list_any (λ r. r == i) (flagged_from (k + 1) flags) in
    in_flags i k flag flags ∙ ap (λ b. (flag && b) || rest) (ne_eqb k i (λ e. absurd (omega arith))) ∙ no_flag flag rest
    ∙ not_later (k + 1) flags i (omega arith)

-- a row is among the flagged ones where its flag is set
pub flagged_is : (j : ℕ) (flags : List Bool) (i : ℕ)
    → list_any (λ r. r == j + i) (flagged_from j flags) ≡ slice_index_or flags i false
flagged_is j [] i = refl
flagged_is j (flag ∷ flags) zero =
    let rest = list_any (λ r. r == j + 0) (flagged_from (j + 1) flags) in
    in_flags (j + 0) j flag flags ∙ ap (λ b. (flag && b) || rest) (eq-eqb j (j + 0) (omega arith))
    ∙ ap (λ c. (flag && true) || c) (not_later (j + 1) flags (j + 0) (omega arith)) ∙ own_flag flag
flagged_is j (flag ∷ flags) (suc i) =
    let same : j + suc i ≡ (j + 1) + i = omega arith in
    let rest = list_any (λ r. r == j + suc i) (flagged_from (j + 1) flags) in
    in_flags (j + suc i) j flag flags ∙ ap (λ b. (flag && b) || rest) (ne_eqb j (j + suc i) (λ e. absurd (omega arith)))
    ∙ no_flag flag rest ∙ ap (λ n. list_any (λ r. r == n) (flagged_from (j + 1) flags)) same
    ∙ flagged_is (j + 1) flags i

-- flagged rows are rows that are there
pub flags_within : (j : ℕ) (flags : List Bool) → AllByRecursion (λ r. r < j + length flags) (flagged_from j flags)
flags_within j [] = tt
flags_within j (flag ∷ flags) =
    let more : AllByRecursion (λ r. r < j + suc (length flags)) (flagged_from (j + 1) flags) =
    all_so (λ r. r < j + 1 + length flags) _ (flagged_from (j + 1) flags) (λ r l. omega arith)
    (flags_within (j + 1) flags) in
    elim (cases_Bool flag) [
      | inl set ↦ rw set (omega arith, more)
      | inr unset ↦ rw unset more
    ]

module _ (it : Instance) (set : List Bool) (many : length set ≡ length it.rows) where
  -- a row is chosen just where it is flagged
  chosen_is : (i : ℕ) → is_one_of (flagged_from 0 set) i ≡ flag_at set i
  chosen_is i = rw (zero-add i) at (flagged_is 0 set i)

  -- the flagged rows make a valid short set
  pub set_valid : (demand capacity : ℕ) → demand ≡ demand_of (numbered (transport_of it)) (flag_at set)
      → capacity ≡ capacity_of (numbered (transport_of it)) (flag_at set) →
      IsShort (numbered (transport_of it)) (flag_at set)
      → IsValidSet (network_of it) (record { rows = flagged_from 0 set; demand = demand; capacity = capacity })
  set_valid demand capacity d c short = record {
    there = All-from_recursion (λ r. r < length (transport_of it).demands) (flagged_from 0 set)
        (all_so (λ r. r < 0 + length set) (λ r. r < length (transport_of it).demands) (flagged_from 0 set)
        (λ r l. omega (arith, l, many, length-map it.rows (λ (x : Row). x.count))) (flags_within 0 set));
    is_short =
        rw (
          demand_is it (demands_in it) (arcs_from 0 it.arcs) _ _ chosen_is,
          capacity_is it (demands_in it) (arcs_from 0 it.arcs) _ _ chosen_is,
        ) short;
    demand = d ∙ sym (demand_is it (demands_in it) (arcs_from 0 it.arcs) _ _ chosen_is);
    capacity = c ∙ sym (capacity_is it (demands_in it) (arcs_from 0 it.arcs) _ _ chosen_is);
  }
