-- A certificate as far as its lines were read, and what can stand next in its lists.
use Rattle.std.specs.Prelude.{◌≡◌, ◌==◌, ◌&&◌, ◌-◌, ℕ, Bool, true, false, List, [], ◌∷◌, ◌++◌, length, nat_le, nat_lt}
use Rattle.std.specs.Prelude.{slice_get, Option, Some, None, if◌then◌else◌}
use Rattle.hsp_text.specs.declared.limits.TheConstants.{MOST_DEMAND_ROWS, MOST_HOSTS, MOST_SERVERS}
use Rattle.hsp_cert.specs.declared.ranges.TheConstants.{LAST_ROW, LAST_SITE}
use Rattle.hsp_cert.specs.declared.use_line.UseLine.{UseLine}
use Rattle.hsp_cert.specs.declared.stage.Stage.{Stage}
use Rattle.hsp_cert.specs.declared.item.Word.TheVariants as word
use Rattle.hsp_cert.specs.declared.item.Item.{Item}
use Rattle.hsp_cert.specs.declared.item.Item.TheVariants as item
use Rattle.hsp_cert.specs.Certificate.{Best, Short, is_use, is_row, is_price, is_before, goes_on_from}

pub record Drafted : Type 0 where
  pub stage : Stage
  pub version : ℕ
  pub plan : Best
  pub set : Short

-- what taking an item did: the next state, or nothing can be said of it
abbrev pub Took : {A : Type 0} → Option A → Bool → A → Type 0
Took (Some d) true new = new ≡ d
Took (Some d) false new = ⊥
Took None true new = ⊥
Took None false new = Unit {0}

abbrev pub when : {A : Type 0} → Bool → A → Option A
when test x = if test then Some x else None

abbrev pub last : {A : Type 0} → List A → Option A
last xs = slice_get xs (length xs - 1)

-- whether the number and the price can stand behind these prices
abbrev pub is_next : ℕ → List ℕ → ℕ → ℕ → Bool
is_next most prices number price = (number == length prices && nat_lt number most) && is_price price

abbrev pub is_none : {A : Type 0} → List A → Bool
is_none xs = length xs == 0

abbrev pub may_use : Best → UseLine → Bool
may_use b u =
    ((is_none b.row_prices && is_none b.server_prices) && is_none b.host_prices)
    && (is_use u && goes_on_from is_before (last b.uses) u)

abbrev pub may_row_price : Best → ℕ → ℕ → Bool
may_row_price b number price =
    (is_none b.server_prices && is_none b.host_prices) && is_next MOST_DEMAND_ROWS b.row_prices number price

abbrev pub may_server_price : Best → ℕ → ℕ → Bool
may_server_price b number price = is_none b.host_prices && is_next MOST_SERVERS b.server_prices number price

abbrev pub may_host_price : ℕ → Best → ℕ → ℕ → Bool
may_host_price version b number price = version == 2 && is_next MOST_HOSTS b.host_prices number price

abbrev pub may_row : Short → ℕ → Bool
may_row s row = is_row row && goes_on_from nat_lt (last s.rows) row

abbrev pub use_in : ℕ → ℕ → ℕ → Option UseLine
use_in row site count =
    when (nat_le row LAST_ROW && nat_le site LAST_SITE) (record { row = row; site = site; count = count })

abbrev pub row_in : ℕ → Option ℕ
row_in row = when (nat_le row LAST_ROW) row

abbrev pub use_step : Best → Option UseLine → Option Best
use_step b None = None
use_step b (Some u) =
    when (may_use b u)
    (record {
      cost = b.cost;
      uses = b.uses ++ u ∷ [];
      row_prices = b.row_prices;
      server_prices = b.server_prices;
      host_prices = b.host_prices;
    })

abbrev pub row_price_step : Best → ℕ → ℕ → Option Best
row_price_step b number price =
    when (may_row_price b number price)
    (record {
      cost = b.cost;
      uses = b.uses;
      row_prices = b.row_prices ++ price ∷ [];
      server_prices = b.server_prices;
      host_prices = b.host_prices;
    })

abbrev pub server_price_step : Best → ℕ → ℕ → Option Best
server_price_step b number price =
    when (may_server_price b number price)
    (record {
      cost = b.cost;
      uses = b.uses;
      row_prices = b.row_prices;
      server_prices = b.server_prices ++ price ∷ [];
      host_prices = b.host_prices;
    })

abbrev pub host_price_step : ℕ → Best → ℕ → ℕ → Option Best
host_price_step version b number price =
    when (may_host_price version b number price)
    (record {
      cost = b.cost;
      uses = b.uses;
      row_prices = b.row_prices;
      server_prices = b.server_prices;
      host_prices = b.host_prices ++ price ∷ [];
    })

-- a line between the cost and the end of a plan
abbrev pub body_step : ℕ → Best → Item → Option Best
body_step version b (item.Three word.Use row site count) = use_step b (use_in row site count)
body_step version b (item.Two word.Row number price) = row_price_step b number price
body_step version b (item.Two word.Server number price) = server_price_step b number price
body_step version b (item.Two word.Host number price) = host_price_step version b number price
body_step version b i = None

abbrev pub row_step : Short → Option ℕ → Option Short
row_step s None = None
row_step s (Some row) =
    when (may_row s row) (record { rows = s.rows ++ row ∷ []; demand = s.demand; capacity = s.capacity })

-- a row of a short set
abbrev pub rows_step : Short → Item → Option Short
rows_step s (item.One word.Row row) = row_step s (row_in row)
rows_step s i = None
