-- Kinds of the rows of a network. Rows with the same arcs are one row to a plan, which asks for what they ask for
-- together.
use Rattle.std.specs.Prelude.{ℕ, List}
use Rattle.hsp_transport.specs.Kinds as kinds
use Rattle.hsp_transport.specs.Kinds.{Link}
use Rattle.hsp_check.specs.Network.{Network, site_of, transport}
use Rattle.hsp_check.specs.Plan.{Plan}

-- the arcs of a row without the row, in their order
abbrev pub links_of : Network → ℕ → List Link
links_of n i = kinds.links_of site_of (transport n) i

-- no row has two arcs to one site
abbrev pub HasOneArcASite : Network → Type 0
HasOneArcASite n = kinds.HasOneArcASite site_of (transport n)

-- The rows of m are the kinds of those of n: `kind i` is the kind of row i.
abbrev pub AreKinds : Network → Network → (ℕ → ℕ) → Type 0
AreKinds n m kind = kinds.AreKinds site_of (transport n) (transport m) kind

-- the two plans cost the same, and bring the same to each server and each host
abbrev pub AreAlikeIn : Network → Network → Plan → Plan → Type 0
AreAlikeIn n m x y = kinds.AreAlikeIn site_of (transport n) (transport m) x y

-- a plan of the rows that sends what y sends from the kinds
abbrev pub IsSpread : Network → Network → (ℕ → ℕ) → Plan → Plan → Type 0
IsSpread n m kind y x = kinds.IsSpread site_of (transport n) (transport m) kind y x

-- each row's price is its kind's
abbrev pub ArePricesOfKinds : Network → (ℕ → ℕ) → List ℕ → List ℕ → Type 0
ArePricesOfKinds n kind u of_kinds = kinds.ArePricesOfKinds (transport n) kind u of_kinds
