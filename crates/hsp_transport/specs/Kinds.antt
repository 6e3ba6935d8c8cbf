-- Kinds of the sources of a network. Sources whose arcs are alike are one source to a plan, which demands what they
-- demand together.
use Rattle.std.specs.Prelude.{◌≡◌, ℕ, ◌<◌, ◌≤◌, ◌==◌, List, length, map, filter, sum_by, slice_index}
use Rattle.std.specs.Prelude.{if◌then◌else◌}
use Rattle.hsp_transport.specs.Sums.{sum_below}
use Rattle.hsp_transport.specs.Network.{Network}
use Rattle.hsp_transport.specs.Flow.{host_load, load, total_cost}
use Rattle.hsp_transport.specs.Plans.{Best, Feasible, Plan, planned}

-- an arc without its source
pub record Link : Type 0 where
  pub site : ℕ
  pub server : ℕ
  pub cost : ℕ

abbrev pub link_of : {A : Type 0} → (A → ℕ) → Network A → A → Link
link_of site n a = record { site = site a; server = n.server a; cost = n.cost a }

-- the links of a source, in the order of its arcs
abbrev pub links_in : {A : Type 0} → (A → ℕ) → Network A → List A → ℕ → List Link
links_in site n arcs i = map (link_of site n) (filter (λ a. n.source a == i) arcs)

abbrev pub links_of : {A : Type 0} → (A → ℕ) → Network A → ℕ → List Link
links_of site n i = links_in site n n.arcs i

-- how many of them lead to a site
abbrev pub links_to : List Link → ℕ → ℕ
links_to links s = sum_by (λ a. if a.site == s then 1 else 0) links

-- no source has two arcs to one site
abbrev pub HasOneArcASite : {A : Type 0} → (A → ℕ) → Network A → Type 0
HasOneArcASite site n = (i s : ℕ) → i < length n.demands → links_to (links_of site n i) s ≤ 1

-- what the sources of a kind have together: `kind i` is the kind of source i
abbrev pub together : {A : Type 0} → Network A → (ℕ → ℕ) → (ℕ → ℕ) → ℕ → ℕ
together n kind f k = sum_below (length n.demands) (λ i. if kind i == k then f i else 0)

-- The sources of m are the kinds of those of n. Each source is of a kind and has the arcs of its kind. Each kind has a
-- source, and demands what its sources demand together. Servers and hosts are the same.
pub record AreKinds {A : Type 0} (site : A → ℕ) (n m : Network A) (kind : ℕ → ℕ) : Type 0 where
  pub inside : (i : ℕ) → i < length n.demands → kind i < length m.demands
  pub seen : (k : ℕ) → k < length m.demands → (i : ℕ) × (i < length n.demands) × (kind i ≡ k)
  pub arcs : (i : ℕ) → i < length n.demands → links_of site n i ≡ links_of site m (kind i)
  pub demands : (k : ℕ) → k < length m.demands
      → slice_index m.demands k ≡ together n kind (λ i. slice_index n.demands i) k
  pub capacities : n.capacities ≡ m.capacities
  pub limits : n.limits ≡ m.limits
  pub host_of : (j : ℕ) → n.host_of j ≡ m.host_of j

-- the plan of the kinds that sends what a plan of the sources sends
abbrev pub pooled : {A : Type 0} → Network A → (ℕ → ℕ) → Plan → Plan
pooled n kind x k s = together n kind (λ i. x i s) k

-- the plan x of n and the plan y of m send from each kind as much to each site
abbrev pub IsPooled : {A : Type 0} → Network A → Network A → (ℕ → ℕ) → Plan → Plan → Type 0
IsPooled n m kind x y = (k s : ℕ) → k < length m.demands → pooled n kind x k s ≡ y k s

-- the two plans cost the same, and bring the same to each server and each host
pub record AreAlikeIn {A : Type 0} (site : A → ℕ) (n m : Network A) (x y : Plan) : Type 0 where
  pub total : total_cost n (planned site n x) ≡ total_cost m (planned site m y)
  pub load : (j : ℕ) → load n (planned site n x) j ≡ load m (planned site m y) j
  pub host_load : (h : ℕ) → host_load n (planned site n x) h ≡ host_load m (planned site m y) h

-- a plan of the sources that sends what y sends from the kinds
pub record IsSpread {A : Type 0} (site : A → ℕ) (n m : Network A) (kind : ℕ → ℕ) (y x : Plan) : Type 0 where
  pub feasible : Feasible site n x
  pub pooled : IsPooled n m kind x y
  pub alike : AreAlikeIn site n m x y
  pub best : Best site m y → Best site n x

-- each source's price is its kind's
abbrev pub ArePricesOfKinds : {A : Type 0} → Network A → (ℕ → ℕ) → List ℕ → List ℕ → Type 0
ArePricesOfKinds n kind u of_kinds = (i : ℕ) → i < length n.demands → slice_index u i ≡ slice_index of_kinds (kind i)
