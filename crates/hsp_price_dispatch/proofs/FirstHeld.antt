-- What a front holds at first, by the lists that were added up.
use Rattle.std.proofs.Common.{◌≡◌, ◌<◌, ◌≤◌, ◌+◌, ◌-◌, ◌^◌, ◌==◌, ◌∙◌, ℕ, Bool, false, List, [], ◌∷◌, length, All, None}
use Rattle.std.proofs.Common.{Option, Some, ap, arith, get_or, if◌then◌else◌, inl, inr, ne_eqb, refl, slice_index}
use Rattle.std.proofs.Common.{subst, sym}
use Rattle.std.specs.List.{flat_map}
use Rattle.std.proofs.lemmas.Bool.{cases_lt}
use Rattle.std.proofs.lemmas.List.{get_or_past, length-map}
use Rattle.std.proofs.lemmas.List.Elements.{All-head, All-tail}
use Rattle.std.proofs.lemmas.List.Sums.{sum_by-cons}
use Rattle.hsp_transport.specs.Sums.{sum_below}
use Rattle.hsp_transport.proofs.Summing.{sum_below_same}
use Rattle.hsp_instance.specs.Instance.{Host, Server}
use Rattle.hsp_check.specs.ArcFlows.{host_in}
use Rattle.hsp_check.specs.Lists.{AreHosted, AreWithin}
use Rattle.hsp_check.specs.Plan.{is_on}
use Rattle.hsp_prices.specs.Rows.{Service}
use Rattle.hsp_price_text.specs.Claim.{Best}
use Rattle.hsp_prices.specs.Least.{host_at}
use Rattle.hsp_prices.specs.Sums.{host_load_at, load_at}
use Rattle.hsp_log.specs.FrontShares.{share}
use Rattle.hsp_price_check.specs.Passed.{capped}
use Rattle.hsp_price_dispatch.specs.Holding.{Held, left_where}
use Rattle.hsp_price_dispatch.specs.Standing.{IsAccepted, IsStanding}
use Rattle.hsp_price_dispatch.specs.Starting.{IsBegun, capacity_at, cells_of}
use Rattle.hsp_price_dispatch.specs.declared.cells.Cell.{Cell}
use Rattle.hsp_price_dispatch.specs.declared.starting.Accepted.{Accepted}
use Rattle.hsp_price_dispatch.proofs.Begun.{cells_in}
use Rattle.hsp_price_dispatch.proofs.Fronts.{sends_there}
use Rattle.hsp_price_check.proofs.Capping.{kept_within}
use Rattle.hsp_price_dispatch.proofs.Starts.{capacity_small}
use Rattle.hsp_price_dispatch.proofs.Sums.{all_sends, host_left, host_load_is, left_is, load_is, shares_low}

-- nothing is left at servers where no cell is
none_where : (test : ℕ → Bool) (cells : List Cell) → All (λ (cell : Cell). test cell.server ≡ false) cells
    → left_where test cells ≡ 0
none_where test [] all = refl
none_where test (cell ∷ cells) all =
    let here : (if test cell.server then cell.left else 0) ≡ 0 =
    rw (All-head (λ (cell : Cell). test cell.server ≡ false) cell cells all) refl in
    let more = none_where test cells (All-tail (λ (cell : Cell). test cell.server ≡ false) cell cells all) in
    omega (arith, sum_by-cons (λ (cell : Cell). if test cell.server then cell.left else 0) cell cells, here, more)

module _ (at : Service) (plan : Best) (fronts front : ℕ) (own : Accepted) (is : IsAccepted at plan own)
    (some : 0 < fronts) (cells : List Cell) (cells_are : cells ≡ flat_map (cells_of fronts front) plan.classes) where
  abbrev pub hosts : List (Option ℕ)
  hosts = own.numbers.server_hosts.items

  -- the servers of cells are there
  pub servers_in : All (λ (cell : Cell). cell.server < length at.servers) cells
  servers_in =
      subst (λ (list : List Cell). All (λ (cell : Cell). cell.server < length at.servers) list) (sym cells_are)
      (cells_in fronts front (length at.servers) plan.classes is.fits.there)

  -- no more is left than all classes bring
  left_low : (j : ℕ) → left_where (λ k. k == j) cells ≤ load_at at plan [] j
  left_low j =
      let own_left : left_where (λ k. k == j) cells ≡ _ =
      ap (left_where (λ k. k == j)) cells_are ∙ left_is fronts front (λ k. k == j) plan.classes in
      omega (
        arith,
        own_left,
        shares_low fronts front (λ k. k == j) (all_sends plan.classes) some,
        load_is at plan j,
      )

  -- nor at the servers of a host
  host_left_low : (h : ℕ) → left_where (λ k. is_on (host_at at k) h) cells ≤ host_load_at at plan [] h
  host_left_low h =
      let test = λ (k : ℕ). is_on (host_at at k) h in
      let own_left : left_where test cells ≡ _ =
      ap (left_where test) cells_are ∙ left_is fronts front test plan.classes in
      omega (
        arith,
        own_left,
        shares_low fronts front test (all_sends plan.classes) some,
        host_load_is at plan h (sends_there (length at.servers) plan.classes is.fits.there),
      )

  -- nothing is left past the servers
  past_servers : (j : ℕ) → length at.servers ≤ j → left_where (λ k. k == j) cells ≡ 0
  past_servers j past =
      none_where (λ k. k == j) cells
      (λ k d l. let low = servers_in k d l in ne_eqb _ j (λ same. omega (arith, same, low, past)))

  -- and none stands past the hosts
  not_on : (o : Option ℕ) (h : ℕ) → ((g : ℕ) → o ≡ Some g → g < length own.numbers.limits.items)
      → length own.numbers.limits.items ≤ h → is_on o h ≡ false
  not_on None h below past = refl
  not_on (Some g) h below past = ne_eqb g h (λ same. omega (arith, below g refl, past, same))

  -- nothing is left past the hosts
  past_hosts : (h : ℕ) → length own.numbers.limits.items ≤ h → left_where (λ k. is_on (host_at at k) h) cells ≡ 0
  past_hosts h past =
      none_where (λ k. is_on (host_at at k) h) cells
      (λ k d l.
      let j = (get_or cells k d).server in
      not_on (host_at at j) h
      (λ g on. own.numbers.hosts_in j g (ap (λ list. host_in list j) is.numbers.server_hosts ∙ on)) past)

  -- as many servers and hosts as the service has
  pub servers_many : length own.numbers.capacities.items ≡ length at.servers
  servers_many =
      ap (λ (list : List ℕ). length list) is.numbers.capacities
      ∙ length-map at.servers (λ (server : Server). server.capacity)

  -- as many hosts as the service has
  pub hosts_many : length own.numbers.limits.items ≡ length at.hosts
  hosts_many =
      ap (λ (list : List ℕ). length list) is.numbers.limits ∙ length-map at.hosts (λ (host : Host). host.limit)

  -- what classes bring to hosts is within their limits
  pub hosts_within : AreWithin own.numbers.limits.items own.host_loads.items
  hosts_within h l =
      let here : h < length at.hosts = omega (arith, l, hosts_many) in
      omega (
        arith,
        is.fits.load.1 h here,
        is.host_loads h here,
        ap (λ (list : List ℕ). slice_index list h) is.numbers.limits,
      )

  module _ (held : List ℕ) (many : length held ≡ length at.servers)
      (each : (j : ℕ) → j < length at.servers → slice_index held j ≡ capped (left_where (λ k. k == j) cells)) where
    -- the sums are exact
    held_there : (j : ℕ) → j < length at.servers → slice_index held j ≡ left_where (λ k. k == j) cells
    held_there j l =
        let low : left_where (λ k. k == j) cells ≤ capacity_at at j = omega (arith, left_low j, is.fits.load.0 j l) in
        each j l ∙ kept_within (left_where (λ k. k == j) cells) (capacity_at at j) (capacity_small at is.service j) low

    -- and so they are past the servers
    pub held_is : (j : ℕ) → slice_index held j ≡ left_where (λ k. k == j) cells
    held_is j = elim (cases_lt j (length at.servers)) [
      | inl there ↦ held_there j there
      | inr past ↦ get_or_past held j 0 (omega (arith, past, many)) ∙ sym (past_servers j past)
    ]

    -- and small
    pub held_small : (v : ℕ) → v < length held → slice_index held v < 2 ^ 100
    held_small v l =
        omega (
          arith,
          held_is v,
          left_low v,
          is.fits.load.0 v (omega (arith, many)),
          capacity_small at is.service v,
        )

    -- no more than all classes bring
    pub held_low : (j : ℕ) → j < length at.servers → slice_index held j ≤ slice_index own.loads.items j
    held_low j l = omega (arith, held_is j, left_low j, is.loads j l)

    module _ (host_held : List ℕ) (host_many : length host_held ≡ length own.numbers.limits.items)
        (hosted : AreHosted hosts held host_held) where
      -- what is held at hosts
      host_there : (h : ℕ) → h < length host_held
          → slice_index host_held h ≡ left_where (λ k. is_on (host_at at k) h) cells
      host_there h l =
          let length_is : length hosts ≡ length at.servers =
          ap (λ list. length list) is.numbers.server_hosts
          ∙ length-map at.servers (λ (server : Server). server.host) in
          hosted h l
          ∙ ap (λ n. sum_below n (λ j. if is_on (host_in hosts j) h then slice_index held j else 0)) length_is
          ∙ sum_below_same (length at.servers) (λ j. if is_on (host_in hosts j) h then slice_index held j else 0)
          (λ j. if is_on (host_at at j) h then left_where (λ k. k == j) cells else 0)
          (λ j inside. ap (λ v. if is_on (host_in hosts j) h then v else 0) (held_is j)
          ∙ ap (λ list. if is_on (host_in list j) h then left_where (λ k. k == j) cells else 0) is.numbers.server_hosts)
          ∙ sym (host_left at cells h servers_in)

      -- and past the hosts
      pub host_held_is : (h : ℕ) → slice_index host_held h ≡ left_where (λ k. is_on (host_at at k) h) cells
      host_held_is h = elim (cases_lt h (length host_held)) [
        | inl there ↦ host_there h there
        | inr past ↦ get_or_past host_held h 0 past ∙ sym (past_hosts h (omega (arith, past, host_many)))
      ]

      -- no more is held at a host than all classes bring there
      pub host_held_low : (h : ℕ) → h < length at.hosts → slice_index host_held h ≤ slice_index own.host_loads.items h
      host_held_low h l = omega (arith, host_held_is h, host_left_low h, is.host_loads h l)

      module _ (rooms host_rooms : List ℕ) (rooms_many : length rooms ≡ length at.servers)
          (host_rooms_many : length host_rooms ≡ length own.numbers.limits.items) where
        abbrev pub first_held : Held
        first_held =
            record { service = at; plan = plan; cells = cells; rooms = rooms; host_rooms = host_rooms }

        -- the lists are those of the front
        pub first_stands : IsStanding first_held hosts held host_held
        first_stands = record {
          server_hosts_are = is.numbers.server_hosts;
          hosts_below = λ j h on. omega (arith, own.numbers.hosts_in j h on, host_rooms_many);
          rooms_many = rooms_many;
          servers_in = servers_in;
          held_is = held_is;
          host_held_is = host_held_is;
        }

        -- and the front has just begun
        pub first_begun : ((j : ℕ) → j < length at.servers
            → slice_index rooms j
            ≡ share fronts front (slice_index own.numbers.capacities.items j - slice_index own.loads.items j)
            + slice_index held j)
            → ((h : ℕ) → h < length at.hosts
            → slice_index host_rooms h
            ≡ share fronts front (slice_index own.numbers.limits.items h - slice_index own.host_loads.items h)
            + slice_index host_held h)
            → IsBegun at plan fronts front first_held
        first_begun server_rooms server_host_rooms = record {
          service = refl;
          plan_is = refl;
          cells = cells_are;
          rooms_many = rooms_many;
          rooms = λ j l.
              rw (← held_is j, ← is.loads j l, ← is.numbers.capacities) (server_rooms j l);
          host_rooms_many = host_rooms_many ∙ hosts_many;
          host_rooms = λ h l.
              rw (← host_held_is h, ← is.host_loads h l, ← is.numbers.limits) (server_host_rooms h l);
        }
