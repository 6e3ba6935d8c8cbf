-- The certificate of flagged servers has what it has to.
use Rattle.std.proofs.Common.{◌≡◌, ℕ, ◌+◌, ◌<◌, ◌≤◌, ◌⊎◌, ◌∙◌, Bool, List, [], ◌∷◌, All, length, sum_by, ap, sym, subst}
use Rattle.std.proofs.Common.{arith, inl, inr, true, false, refl, zero-add}
use Rattle.std.specs.Prelude.{IfNone, IfSome, Option, Some, None, if◌then◌else◌}
use Rattle.std.specs.List.{list_all}
use Rattle.std.proofs.Math.Path.{fun_ext}
use Rattle.std.proofs.lemmas.Bool.{and_from, both_ways, cases_Bool, cases_lt, le-leb}
use Rattle.std.proofs.lemmas.List.{length-map}
use Rattle.std.proofs.lemmas.List.Elements.{All-from_recursion}
use Rattle.hsp_text.specs.declared.limits.TheConstants.{GREATEST_SUM}
use Rattle.hsp_transport.specs.Lists.{flag_at}
use Rattle.hsp_instance.specs.Instance.{Row, Server}
use Rattle.hsp_instance.proofs.Lists.{all_so}
use Rattle.hsp_check.specs.Lists.{AreFlagsOf}
use Rattle.hsp_check.specs.Verdict.{is_one_of}
use Rattle.hsp_flow.specs.Planning.{flagged_from}
use Rattle.hsp_flow.proofs.Ranges.{flags_ascend}
use Rattle.hsp_flow.proofs.ShortRows.{flagged_is, flags_within}
use Rattle.hsp_prices.specs.Rows.{Service, network_for}
use Rattle.hsp_price_text.specs.Claim.{Short, are_servers, if_short, is_server, is_short}
use Rattle.hsp_prices.specs.ServerSets.{capacity_of_servers}
use Rattle.hsp_prices.specs.Groups.{Group}
use Rattle.hsp_prices.specs.KeptRows.{KeptRow, with_leaving}
use Rattle.hsp_price_check.specs.PlanPass.{AreNumbersOf}
use Rattle.hsp_price_check.specs.SetPass.{capacity_by}
use Rattle.hsp_price_check.specs.declared.numbers.ServiceNumbers.{ServiceNumbers}
use Rattle.hsp_price_plan.specs.Shortage.{IsShortageFor, caught_demand}
use Rattle.hsp_price_plan.proofs.CaughtDemand.{caught_demand_is, group_in}

-- the servers of a certificate are flagged
pub servers_are : (flags : List Bool) (j : ℕ) → is_one_of (flagged_from 0 flags) j ≡ flag_at flags j
servers_are flags j = rw (zero-add j) at (flagged_is 0 flags j)

-- so the flags are those of the servers
pub flags_are : (flags : List Bool) (count : ℕ) → AreFlagsOf (is_one_of (flagged_from 0 flags)) count flags
flags_are flags count j l = sym (servers_are flags j)

-- what servers take by the numbers of a service is what they take in its network
capacity_for : (at : Service) (numbers : ServiceNumbers) (rows : List Row) (servers : List ℕ) → AreNumbersOf at numbers
    → capacity_by numbers servers ≡ capacity_of_servers (network_for at rows) (is_one_of servers)
capacity_for at numbers rows servers are =
    rw (are.capacities, are.limits, are.server_hosts) refl

-- the certificate of flagged servers, with what groups ask for and what the servers take
abbrev pub short_by : ServiceNumbers → List Group → List Bool → Short
short_by numbers groups reached = record {
  servers = flagged_from 0 reached;
  demand = caught_demand reached groups;
  capacity = capacity_by numbers (flagged_from 0 reached);
}

-- has what it has to
pub is_shortage : (numbers : ServiceNumbers) (groups : List Group) (reached : List Bool)
    → length reached ≡ length numbers.server_hosts.items
    → IsShortageFor numbers groups reached (short_by numbers groups reached)
is_shortage numbers groups reached many at rows kept numbers_are are of leaving = record {
  servers = servers_are reached;
  there = there;
  leaving = leaving_set;
  demand =
      ap (λ (set : ℕ → Bool). sum_by (group_in set) groups) (sym same)
      ∙ caught_demand_is at (flagged_from 0 reached) rows kept groups are of leaving_set;
  capacity = capacity_for at numbers rows (flagged_from 0 reached) numbers_are;
}
  where
    same : is_one_of (flagged_from 0 reached) ≡ flag_at reached
    same = fun_ext (servers_are reached)

    leaving_set : All (λ row. with_leaving (is_one_of (flagged_from 0 reached)) row ≡ row) kept
    leaving_set =
        subst (λ (set : ℕ → Bool). All (λ (row : KeptRow). with_leaving set row ≡ row) kept) (sym same) leaving

    there : All (λ j. j < length at.servers) (flagged_from 0 reached)
    there =
        All-from_recursion (λ j. j < length at.servers) (flagged_from 0 reached)
        (all_so (λ j. j < 0 + length reached) (λ j. j < length at.servers) (flagged_from 0 reached)
        (λ j l.
        omega (
          arith,
          l,
          many,
          ap (λ (hosts : List (Option ℕ)). length hosts) numbers_are.server_hosts,
          length-map at.servers (λ (server : Server). server.host),
        ))
        (flags_within 0 reached))

-- ---- where it is one of a text

-- flagged servers are within their range
flags_in_range : (j : ℕ) (flags : List Bool) → j + length flags ≤ 1024
    → list_all is_server (flagged_from j flags) ≡ true
flags_in_range j [] few = refl
flags_in_range j (true ∷ flags) few =
    and_from _ _ (le-leb j 1023 (omega (arith, few))) (flags_in_range (j + 1) flags (omega (arith, few)))
flags_in_range j (false ∷ flags) few = flags_in_range (j + 1) flags (omega (arith, few))

-- and ascend
pub servers_ordered : (flags : List Bool) → length flags ≤ 1024 → are_servers (flagged_from 0 flags) ≡ true
servers_ordered flags few = and_from _ _ (flags_in_range 0 flags (omega (arith, few))) (flags_ascend 0 flags)

-- where they do, a certificate that is none of a text has a sum past the limits
pub past_sums : (short : Short) → are_servers short.servers ≡ true → is_short short ≡ false
    → (GREATEST_SUM < short.demand) ⊎ (GREATEST_SUM < short.capacity)
past_sums short order none = elim (cases_lt GREATEST_SUM short.demand) [
  | inl past ↦ inl past
  | inr demand ↦ elim (cases_lt GREATEST_SUM short.capacity) [
    | inl past ↦ inr past
    | inr capacity ↦
        absurd
        (both_ways (is_short short) none
        (and_from _ _ order
        (and_from _ _ (le-leb short.demand GREATEST_SUM demand) (le-leb short.capacity GREATEST_SUM capacity))))
  ]
]

-- what holds of a certificate holds of it where it is one of a text
pub some_short : (P : Short → Type 0) (short : Short) (found : Option Short) → found ≡ if_short short → P short
    → IfSome found P
some_short P short found is holds = elim (cases_Bool (is_short short)) [
  | inl t ↦
      subst (λ (o : Option Short). IfSome o P) (sym (is ∙ ap (λ b. if b then Some short else None) t)) holds
  | inr f ↦
      subst (λ (o : Option Short). IfSome o P) (sym (is ∙ ap (λ b. if b then Some short else None) f)) tt
]

-- and there is none only where it isn't
pub none_short : (N : Type 0) (short : Short) (found : Option Short) → found ≡ if_short short
    → (is_short short ≡ false → N) → IfNone found N
none_short N short found is past = elim (cases_Bool (is_short short)) [
  | inl t ↦
      subst (λ (o : Option Short). IfNone o N) (sym (is ∙ ap (λ b. if b then Some short else None) t)) tt
  | inr f ↦
      subst (λ (o : Option Short). IfNone o N) (sym (is ∙ ap (λ b. if b then Some short else None) f)) (past f)
]
