-- A valid certificate that is none of a text has a number past the limits, or too many classes.
use Rattle.std.proofs.Common.{◌≡◌, ◌≤◌, ◌<◌, ◌∙◌, ◌==◌, ℕ, Bool, true, false, inl, inr, All, List, None, ap, arith}
use Rattle.std.proofs.Common.{eq-eqb, length, map, nat_lt, slice_index, slice_index_or, subst, sym, zip}
use Rattle.std.specs.List.{list_all}
use Rattle.std.proofs.lemmas.Bool.{and_from, both_ways, cases_lt, le-leb}
use Rattle.std.proofs.lemmas.List.{get_or-map, length-map}
use Rattle.std.proofs.lemmas.List.Elements.{All-from_recursion}
use Rattle.std.proofs.lemmas.List.Folds.{Any-from_list_any}
use Rattle.std.proofs.lemmas.List.Sums.{count_by-le-length, get_or-le-sum_by, length-filter, list_all-from_AllPass}
use Rattle.std.proofs.lemmas.Slice.Zip.{get_or-zip, length-zip}
use Rattle.hsp_text.specs.Name.{is_name}
use Rattle.hsp_text.specs.declared.limits.TheConstants.{GREATEST_PRICE, GREATEST_SUM}
use Rattle.hsp_transport.proofs.Rowwise.{when, when_here}
use Rattle.hsp_tables.specs.Costs.{AreCosts}
use Rattle.hsp_cert.specs.Certificate.{are_prices_within, ascends, is_price}
use Rattle.hsp_check.specs.Prices.{ArePrices}
use Rattle.hsp_instance.specs.Instance.{IsServer, Row, Server}
use Rattle.hsp_instance.specs.declared.arc.Arc.{Arc}
use Rattle.hsp_prices.specs.Rows.{Service}
use Rattle.hsp_prices.proofs.Tabling.{both_equal}
use Rattle.hsp_price_text.specs.Claim.{Best, Class, are_servers, is_amount, is_before, is_best, is_class, is_server}
use Rattle.hsp_price_text.specs.declared.certificate.PriceCertificate.TheVariants.{Plan}
use Rattle.hsp_prices.specs.Least.{arcs_of, is_least, is_of, least_of, pay_over, servers_of}
use Rattle.hsp_prices.specs.Shown.{IsService}
use Rattle.hsp_prices.specs.Sums.{class_load, sends}
use Rattle.hsp_prices.specs.Verdict.{IsVerdict}
use Rattle.hsp_prices.specs.declared.verdict.PriceReason.TheVariants.{Shape, NoSuchServer, NotLeast, Load}
use Rattle.hsp_prices.specs.declared.verdict.PriceVerdict.TheVariants.{Yes}
use Rattle.hsp_price_plan.specs.Limits.{IsPlanPast, most_classes}
use Rattle.hsp_price_plan.proofs.RowRanges.{row_named, servers_up}

-- prices within their limit pass the test
prices_pass : (prices : List ℕ) (most : ℕ) → length prices ≤ most → ArePrices prices
    → are_prices_within most prices ≡ true
prices_pass prices most few low =
    and_from _ _ (le-leb (length prices) most few)
    (list_all-from_AllPass is_price prices (λ k d l. le-leb (slice_index_or prices k d) GREATEST_PRICE (low k d l)))

module _ (at : Service) (rows : List Row) (plan : Best) (service : IsService at) (costs : AreCosts at.costs)
    (valid : IsVerdict at rows (Plan plan) Yes)
    (several : All (λ (class : Class). 2 ≤ length class.servers) plan.classes)
    (many : All (λ (class : Class). length class.amounts ≡ length class.servers) plan.classes) where
  -- a server that is there takes no more than 10^9
  capacity_low : (j : ℕ) → j < length at.servers
      → slice_index (map (λ (server : Server). server.capacity) at.servers) j ≤ 1000000000
  capacity_low j l =
      let none : Server = record { site = 0; place = 0; id = 0; capacity = 0; host = None } in
      omega (
        arith,
        (All-from_recursion (IsServer at.sites (length at.hosts)) at.servers service.servers.each j none l).capacity,
        get_or-map (λ (server : Server). server.capacity) at.servers j none 0 l,
      )

  module _ (k : ℕ) (d : Class) (l : k < length plan.classes) where
    abbrev class : Class
    class = slice_index_or plan.classes k d

    -- a row of the class, with its region and its least servers
    record IsClassOf (row : Row) : Type 0 where
      region : class.region ≡ row.region
      servers : class.servers ≡ servers_of (least_of at plan row)

    -- a class has a row
    class_row : (row : Row) × IsClassOf row
    class_row =
        let found = Any-from_list_any (λ row. is_of at plan class row) rows (valid NotLeast k d l) in
        let row = slice_index_or rows found.0 found.1 in
        let of : is_of at plan class row ≡ true = ap (λ (r : Row). is_of at plan class r) found.3 ∙ found.4 in
        let same = (both_equal class.region row.region class.servers (servers_of (least_of at plan row))).0 of in
        (row, record { region = same.0; servers = same.1 })

    abbrev row : Row
    row = class_row.0

    abbrev least : Arc → Bool
    least = is_least (pay_over at plan) (arcs_of at row)

    -- its region has a name
    region_fits : is_name class.region ≡ true
    region_fits =
        let some : 0 < length (arcs_of at row) =
        omega (
          arith,
          several k d l,
          ap (λ (s : List ℕ). length s) class_row.1.servers,
          length-map (least_of at plan row) (λ (a : Arc). a.server),
          length-filter least (arcs_of at row),
          count_by-le-length least (arcs_of at row),
        ) in
        subst (λ (r : List ℕ). is_name r ≡ true) (sym class_row.1.region)
        (row_named at.costs row costs.keyed.each 0 0 at.sites some)

    -- its servers are there
    there : (i : ℕ) (e : ℕ) → i < length class.servers → slice_index_or class.servers i e < length at.servers
    there i e m = valid NoSuchServer k d l i e m

    -- and ascend
    servers_fit : are_servers class.servers ≡ true
    servers_fit =
        and_from (list_all is_server class.servers) _
        (list_all-from_AllPass is_server class.servers (λ i e m.
        le-leb (slice_index_or class.servers i e) 1023 (omega (arith, there i e m, service.servers.few))))
        (subst (λ (s : List ℕ). ascends nat_lt s ≡ true) (sym class_row.1.servers)
        (servers_up at.costs row least None 0 0 at.sites tt service.sites.each))

    -- what goes to a server is no more than it takes
    amount_low : (i : ℕ) (e : ℕ) → i < length class.amounts → slice_index_or class.amounts i e ≤ 1000000000000
    amount_low i e m =
        let own : i < length class.servers = omega (arith, m, many k d l) in
        let j = slice_index_or class.servers i 0 in
        let sent : i < length (zip class.servers class.amounts) =
        omega (arith, length-zip class.servers class.amounts, own, m) in
        let brings : when (j == j) (slice_index_or class.amounts i e) ≤ class_load j class =
        rw (get_or-zip class.servers class.amounts i (0, e) own m) at
        (get_or-le-sum_by (λ (s : ℕ × ℕ). when (s.0 == j) s.1) (sends class) i (0, e) sent) in
        omega (
          arith,
          when_here j (slice_index_or class.amounts i e),
          brings,
          get_or-le-sum_by (class_load j) plan.classes k d l,
          (valid Load).0 j (there i 0 own),
          capacity_low j (there i 0 own),
        )

    -- so the class is within the ranges of a text
    class_fits : is_class class ≡ true
    class_fits =
        and_from (is_name class.region) _ region_fits
        (and_from _ _ (le-leb 2 (length class.servers) (several k d l))
        (and_from (are_servers class.servers) _ servers_fit
        (and_from (length class.amounts == length class.servers) _
        (eq-eqb (length class.amounts) (length class.servers) (many k d l))
        (list_all-from_AllPass is_amount class.amounts (λ i e m.
        le-leb (slice_index_or class.amounts i e) 1000000000000 (amount_low i e m))))))

  -- all classes are
  classes_fit : list_all is_class plan.classes ≡ true
  classes_fit = list_all-from_AllPass is_class plan.classes class_fits

  -- where the classes are in order and prices low, a plan that is none of a text costs too much or has too many classes
  pub plan_past : ascends is_before plan.classes ≡ true → ArePrices plan.server_prices → ArePrices plan.host_prices
      → is_best plan ≡ false → IsPlanPast plan
  plan_past order low low_hosts none =
      let servers = prices_pass plan.server_prices 1024 (omega (arith, (valid Shape).0, service.servers.few)) low in
      let hosts = prices_pass plan.host_prices 1024 (omega (arith, (valid Shape).1, service.hosts.few)) low_hosts in
      record {
        server_prices = servers;
        host_prices = hosts;
        classes = classes_fit;
        order = order;
        past = elim (cases_lt GREATEST_SUM plan.cost) [
          | inl dear ↦ inl dear
          | inr cost ↦ elim (cases_lt most_classes (length plan.classes)) [
            | inl more ↦ inr more
            | inr few ↦
                absurd
                (both_ways (is_best plan) none
                (and_from _ _ (le-leb plan.cost GREATEST_SUM cost)
                (and_from _ _ servers
                (and_from _ _ hosts
                (and_from _ _ (le-leb (length plan.classes) most_classes few)
                (and_from _ _ classes_fit order))))))
          ]
        ];
      }
