-- The rows that a valid plan serves ask together for no more than servers and hosts can take.
use Rattle.std.proofs.Common.{◌≡◌, ◌∙◌, ◌≤◌, ◌<◌, ◌*◌, ◌==◌, ◌&&◌, ℕ, zero, suc, Bool, true, false, List, [], ◌∷◌}
use Rattle.std.specs.Prelude.{is_none, min, if◌then◌else◌}
use Rattle.std.proofs.Common.{inl, inr, length, map, not, slice_index, sum_by, refl, ap, ap₂, sym, arith}
use Rattle.std.proofs.lemmas.Bool.{cases_lt}
use Rattle.std.proofs.lemmas.List.{length-map, get_or-map}
use Rattle.std.proofs.lemmas.List.Folds.{list_any_none}
use Rattle.std.specs.List.{AllByRecursion}
use Rattle.hsp_text.specs.declared.limits.TheConstants.{GREATEST_CAPACITY, GREATEST_LIMIT}
use Rattle.hsp_transport.specs.Sums.{sum_below}
use Rattle.hsp_transport.proofs.Rowwise.{when}
use Rattle.hsp_transport.proofs.Summing.{by_place, sum_below_same}
use Rattle.hsp_instance.specs.Instance.{Host, IsLimited, IsServer, Row, Server, Site}
use Rattle.hsp_check.specs.Network.{Network}
use Rattle.hsp_check.specs.Plan.{on_host}
use Rattle.hsp_check.specs.Short.{demand_of}
use Rattle.hsp_check.specs.declared.arc.NetworkArc.{NetworkArc}
use Rattle.hsp_prices.specs.Rows.{Service, network_for}
use Rattle.hsp_prices.proofs.ByTables.{no_row}
use Rattle.hsp_prices.specs.ServerSets.{capacity_in, capacity_of_servers, is_caught}
use Rattle.hsp_prices.proofs.Catching.{short_servers_show_none}
use Rattle.hsp_price_text.specs.Claim.{Best, is_best}
use Rattle.hsp_price_text.specs.declared.certificate.PriceCertificate.TheVariants.{Plan}
use Rattle.hsp_prices.specs.Least.{arcs_of}
use Rattle.hsp_prices.specs.Shown.{IsService}
use Rattle.hsp_prices.specs.Verdict.{IsVerdict}
use Rattle.hsp_prices.specs.declared.verdict.PriceVerdict.TheVariants.{Yes}
use Rattle.hsp_prices.proofs.Networks.{network_there}
use Rattle.hsp_prices.proofs.ServerArcs.{own_arcs}
use Rattle.hsp_prices.proofs.Shown.{plan_is_shown}

-- so many terms, each of them at most 10^12
terms_low : (n : ℕ) (f : ℕ → ℕ) → ((k : ℕ) → k < n → f k ≤ 1000000000000) → sum_below n f ≤ n * 1000000000000
terms_low zero f low = omega arith
terms_low (suc n) f low =
    let rest : sum_below n f ≤ n * 1000000000000 = terms_low n f (λ k l. low k (omega (arith, l))) in
    let last : f n ≤ 1000000000000 = low n (omega arith) in
    omega (arith, rest, last)

-- the capacity of a server is within its limit
pub capacity_low : (sites : List Site) (hosts : ℕ) (servers : List Server)
    → AllByRecursion (IsServer sites hosts) servers → (j : ℕ)
    → slice_index (map (λ server. server.capacity) servers) j ≤ GREATEST_CAPACITY
capacity_low sites hosts [] all j = omega arith
capacity_low sites hosts (s ∷ servers) all zero = all.0.capacity
capacity_low sites hosts (s ∷ servers) all (suc j) = capacity_low sites hosts servers all.1 j

-- and the limit of a host is within its own
limit_low : (hosts : List Host) → AllByRecursion IsLimited hosts → (h : ℕ)
    → slice_index (map (λ (host : Host). host.limit) hosts) h ≤ GREATEST_LIMIT
limit_low [] all h = omega arith
limit_low (host ∷ hosts) all zero = all.0
limit_low (host ∷ hosts) all (suc h) = limit_low hosts all.1 h

-- a number or nothing is at most the number
pub none_or : (t : Bool) (n : ℕ) → (if t then n else 0) ≤ n
none_or true n = omega arith
none_or false n = omega arith

-- all servers
abbrev each : ℕ → Bool
each j = true

-- no arc leads out of the set of all servers
caught : (n : Network) (i : ℕ) → is_caught n each i ≡ true
caught n i =
    ap not (list_any_none (λ (a : NetworkArc). a.row == i && not (each a.server)) n.arcs (λ k d l. none _))
  where
    none : (t : Bool) → (t && false) ≡ false
    none true = refl
    none false = refl

module _ (at : Service) (rows : List Row) where
  -- all rows are caught
  demand_is : demand_of (network_for at rows) (is_caught (network_for at rows) each) ≡ sum_by (λ row. row.count) rows
  demand_is =
      ap
      (λ n. sum_below n (λ i. when (is_caught (network_for at rows) each i)
      (slice_index (network_for at rows).demands i))) (length-map rows (λ (r : Row). r.count))
      ∙ sum_below_same (length rows) _ _ (λ i l.
      ap₂ when (caught (network_for at rows) i) (get_or-map (λ (r : Row). r.count) rows i no_row 0 l))
      ∙ sym (by_place (λ (r : Row). r.count) no_row rows)

  -- all servers and hosts take at most so much
  capacity_is_low : IsService at → capacity_of_servers (network_for at rows) each ≤ 2048 * 1000000000000
  capacity_is_low is =
      let n = network_for at rows in
      let servers =
      terms_low (length n.capacities) (λ j. if is_none (n.host_of j) then capacity_in n each j else 0) (λ j l.
      let low = capacity_low at.sites (length at.hosts) at.servers is.servers.each j in
      omega (arith, low, none_or (is_none (n.host_of j)) (slice_index n.capacities j))) in
      let hosts =
      terms_low (length n.limits) (λ h. min (slice_index n.limits h) (on_host n (capacity_in n each) h)) (λ h l.
      let low = limit_low at.hosts is.hosts.each h in omega (arith, low)) in
      omega (
        arith,
        servers,
        hosts,
        is.servers.few,
        is.hosts.few,
        length-map at.servers (λ (s : Server). s.capacity),
        length-map at.hosts (λ (h : Host). h.limit),
      )

  -- the rows of a valid plan ask for no more
  pub demand_low : (plan : Best) → IsService at → is_best plan ≡ true → IsVerdict at rows (Plan plan) Yes
      → sum_by (λ row. row.count) rows ≤ 2048 * 1000000000000
  demand_low plan is fits valid =
      let n = network_for at rows in
      let x = plan_is_shown at rows plan is fits valid in
      elim (cases_lt (capacity_of_servers n each) (demand_of n (is_caught n each))) [
        | inl short ↦
            absurd
            (short_servers_show_none n each (network_there at is (arcs_of at) (own_arcs at is) rows) short x.0
            x.1.best.feasible)
        | inr within ↦ omega (arith, within, demand_is, capacity_is_low is)
      ]
