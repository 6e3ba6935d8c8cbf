-- A plan of kinds, spread over their sources. What the sources of a kind demand, one source after another, is laid
-- beside what the plan sends to the sites, one site after another. A source sends to a site as much as lies beside it.
use Rattle.std.specs.Prelude.{ℕ, ◌+◌, ◌-◌, ◌==◌, min, slice_index, if◌then◌else◌}
use Rattle.hsp_transport.specs.Sums.{sum_below}
use Rattle.hsp_transport.specs.Network.{Network}
use Rattle.hsp_transport.specs.Plans.{Plan}

-- of a stretch of a line from a to b, as much as lies between c and d
abbrev pub beside : ℕ → ℕ → ℕ → ℕ → ℕ
beside a b c d = (min b d - c) - (min a d - c)

-- what the sources before source i of a kind demand
abbrev pub asked_before : {A : Type 0} → Network A → (ℕ → ℕ) → ℕ → ℕ → ℕ
asked_before n kind k i = sum_below i (λ r. if kind r == k then slice_index n.demands r else 0)

-- what the plan sends from a kind to the sites before site s
abbrev pub sent_before : Plan → ℕ → ℕ → ℕ
sent_before y k s = sum_below s (y k)

-- the plan of the sources
abbrev pub spread : {A : Type 0} → Network A → (ℕ → ℕ) → Plan → Plan
spread n kind y i s =
    let a = asked_before n kind (kind i) i in
    let c = sent_before y (kind i) s in
    beside a (a + slice_index n.demands i) c (c + y (kind i) s)
