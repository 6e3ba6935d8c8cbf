-- What a certificate claims: that a plan is best, or that a set of rows is short.
use Rattle.std.specs.Prelude.{◌≡◌, ◌==◌, ◌≤◌, ◌&&◌, ◌||◌, ℕ, Bool, true, List, [], ◌∷◌, length, nat_le, nat_lt, Option}
use Rattle.std.specs.Prelude.{Some, None}
use Rattle.std.specs.List.{list_all}
use Rattle.hsp_text.specs.declared.limits.TheConstants.{GREATEST_COUNT, GREATEST_PRICE, GREATEST_SUM, MOST_DEMAND_ROWS}
use Rattle.hsp_text.specs.declared.limits.TheConstants.{MOST_HOSTS, MOST_SERVERS}
use Rattle.hsp_cert.specs.declared.ranges.TheConstants.{LAST_ROW, LAST_SITE}
use Rattle.hsp_cert.specs.declared.use_line.UseLine.{UseLine}

pub record Best : Type 0 where
  pub cost : ℕ
  pub uses : List UseLine
  pub row_prices : List ℕ
  pub server_prices : List ℕ
  pub host_prices : List ℕ

pub record Short : Type 0 where
  pub rows : List ℕ
  pub demand : ℕ
  pub capacity : ℕ

pub data Claim : Type 0 where
  best : Best → Claim
  short : Short → Claim

-- row at most 8,191, site at most 31, count from 1 to 1,000,000
abbrev pub is_use : UseLine → Bool
is_use u = (nat_le u.row LAST_ROW && nat_le u.site LAST_SITE) && (nat_le 1 u.count && nat_le u.count GREATEST_COUNT)

-- at most 10^12
abbrev pub is_price : ℕ → Bool
is_price price = nat_le price GREATEST_PRICE

abbrev pub is_row : ℕ → Bool
is_row row = nat_le row LAST_ROW

-- in order of the rows, and of the sites within a row
abbrev pub is_before : UseLine → UseLine → Bool
is_before u v = nat_lt u.row v.row || (u.row == v.row && nat_lt u.site v.site)

-- whether the first of a list, if any, comes after what stands before it, if anything does
abbrev pub goes_on_from : {A : Type 0} → (A → A → Bool) → Option A → A → Bool
goes_on_from before None x = true
goes_on_from before (Some last) x = before last x

abbrev pub ascends_from : {A : Type 0} → (A → A → Bool) → Option A → List A → Bool
ascends_from before last [] = true
ascends_from before last (x ∷ xs) = goes_on_from before last x && ascends_from before (Some x) xs

-- each comes before the next
abbrev pub ascends : {A : Type 0} → (A → A → Bool) → List A → Bool
ascends before xs = ascends_from before None xs

-- a plan with its prices, within the orders and ranges
pub record IsBest (b : Best) : Type 0 where
  pub cost : b.cost ≤ GREATEST_SUM
  pub uses : list_all is_use b.uses ≡ true
  pub order : ascends is_before b.uses ≡ true
  pub row_count : length b.row_prices ≤ MOST_DEMAND_ROWS
  pub row_prices : list_all is_price b.row_prices ≡ true
  pub server_count : length b.server_prices ≤ MOST_SERVERS
  pub server_prices : list_all is_price b.server_prices ≡ true
  pub host_count : length b.host_prices ≤ MOST_HOSTS
  pub host_prices : list_all is_price b.host_prices ≡ true

-- a set of rows with its two sums, within the orders and ranges
pub record IsShort (s : Short) : Type 0 where
  pub rows : list_all is_row s.rows ≡ true
  pub order : ascends nat_lt s.rows ≡ true
  pub demand : s.demand ≤ GREATEST_SUM
  pub capacity : s.capacity ≤ GREATEST_SUM

-- the same as tests
abbrev pub are_prices_within : ℕ → List ℕ → Bool
are_prices_within most prices = nat_le (length prices) most && list_all is_price prices

abbrev pub is_best : Best → Bool
is_best b =
    nat_le b.cost GREATEST_SUM
    && (list_all is_use b.uses
    && (ascends is_before b.uses
    && (are_prices_within MOST_DEMAND_ROWS b.row_prices
    && (are_prices_within MOST_SERVERS b.server_prices && are_prices_within MOST_HOSTS b.host_prices))))

abbrev pub is_short : Short → Bool
is_short s =
    list_all is_row s.rows
    && (ascends nat_lt s.rows && (nat_le s.demand GREATEST_SUM && nat_le s.capacity GREATEST_SUM))

abbrev pub IsCertificate : Claim → Type 0
IsCertificate (best b) = IsBest b
IsCertificate (short s) = IsShort s

-- what a constructor answers: the certificate, or none where it would be outside the orders and ranges
abbrev pub Makes : Claim → Option Claim → Type 0
Makes claim (Some made) = made ≡ claim
Makes claim None = IsCertificate claim → ⊥

abbrev pub best_of : Claim → Option Best
best_of (best b) = Some b
best_of (short s) = None

abbrev pub short_of : Claim → Option Short
short_of (best b) = None
short_of (short s) = Some s
