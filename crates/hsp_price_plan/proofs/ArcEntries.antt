-- The arcs of a row by its entries, place by place.
use Rattle.std.proofs.Common.{◌≡◌, ◌≤◌, ◌<◌, ◌%◌, ◌∙◌, ℕ, zero, suc, List, [], ◌∷◌, length, map, get_or, set}
use Rattle.std.proofs.Common.{ap, arith, refl}
use Rattle.std.proofs.lemmas.List.{length-map}
use Rattle.std.specs.List.{AllByRecursion}
use Rattle.hsp_text.specs.declared.limits.TheConstants.{MOST_SERVERS}
use Rattle.hsp_instance.specs.declared.arc.Arc.{Arc}
use Rattle.hsp_prices.specs.KeptRows.{KeptArc}
use Rattle.hsp_price_plan.specs.Entries.{AreServers, arcs_by, bare_arcs, entry_arc, kept_arc, loose_arc}
use Rattle.hsp_price_plan.specs.Regions.{shape_of}
use Rattle.hsp_price_plan.specs.declared.entries.TheConstants.{KEPT}
use Rattle.hsp_price_plan.specs.declared.region.SiteCost.{SiteCost}
use Rattle.std.specs.Prelude.{nat_le, false}
use Rattle.std.proofs.lemmas.Bool.{lt-leb}

-- there is an arc for each site
pub length-arcs_by : (shape : List SiteCost) (entries : List ℕ) → length shape ≤ length entries
    → length (arcs_by shape entries) ≡ length shape
length-arcs_by [] entries many = refl
length-arcs_by (at ∷ shape) [] many = absurd (omega arith)
length-arcs_by (at ∷ shape) (entry ∷ entries) many = ap suc (length-arcs_by shape entries (omega arith))

-- the arc at a place is that of its entry
pub get_or-arcs_by : (shape : List SiteCost) (entries : List ℕ) (i : ℕ) (d : KeptArc) (z : SiteCost) → i < length shape
    → length shape ≤ length entries
    → get_or (arcs_by shape entries) i d ≡ kept_arc (get_or shape i z) (get_or entries i 0)
get_or-arcs_by [] entries i d z inside many = absurd (omega arith)
get_or-arcs_by (at ∷ shape) [] i d z inside many = absurd (omega arith)
get_or-arcs_by (at ∷ shape) (entry ∷ entries) zero d z inside many = refl
get_or-arcs_by (at ∷ shape) (entry ∷ entries) (suc i) d z inside many =
    get_or-arcs_by shape entries i d z (omega arith) (omega arith)

-- an entry that changes changes its arc only
pub arcs_by-set : (shape : List SiteCost) (entries : List ℕ) (i entry : ℕ) (z : SiteCost)
    → arcs_by shape (set entries i entry) ≡ set (arcs_by shape entries) i (kept_arc (get_or shape i z) entry)
arcs_by-set [] entries i entry z = refl
arcs_by-set (at ∷ shape) [] i entry z = refl
arcs_by-set (at ∷ shape) (first ∷ entries) zero entry z = refl
arcs_by-set (at ∷ shape) (first ∷ entries) (suc i) entry z =
    ap (λ arcs. kept_arc at first ∷ arcs) (arcs_by-set shape entries i entry z)

-- what holds of all arcs holds of the arc at a place
pub bare_at : (P : Arc → Type 0) (shape : List SiteCost) (entries : List ℕ) (i : ℕ) (z : SiteCost) → i < length shape
    → length shape ≤ length entries → AllByRecursion P (bare_arcs shape entries)
    → P (entry_arc (get_or shape i z) (get_or entries i 0))
bare_at P [] entries i z inside many all = absurd (omega arith)
bare_at P (at ∷ shape) [] i z inside many all = absurd (omega arith)
bare_at P (at ∷ shape) (entry ∷ entries) zero z inside many all = all.0
bare_at P (at ∷ shape) (entry ∷ entries) (suc i) z inside many all =
    bare_at P shape entries i z (omega arith) (omega arith) all.1

-- what stands past the end of arcs and of sites
abbrev pub no_arc : Arc
no_arc = record { site = 0; server = 0; cost = 0 }

abbrev pub no_site : SiteCost
no_site = record { site = 0; cost = 0 }

-- an entry that is a server is that of its arc, which isn't kept
one_written : (arc : Arc) (entry : ℕ) → arc.server < MOST_SERVERS → entry ≡ arc.server
    → kept_arc (record { site = arc.site; cost = arc.cost }) entry ≡ loose_arc arc
one_written arc entry low is =
    let server : entry % KEPT ≡ arc.server = omega (arith, low, is) in
    let loose : nat_le KEPT entry ≡ false = lt-leb KEPT entry (omega (arith, low, is)) in
    rw (server, loose) refl

-- entries that are servers are those of their arcs, none of which is kept
pub arcs_written : (arcs : List Arc) (entries : List ℕ) → length arcs ≤ length entries → AreServers arcs
    → ((k : ℕ) → k < length arcs → get_or entries k 0 ≡ (get_or arcs k no_arc).server)
    → arcs_by (shape_of arcs) entries ≡ map loose_arc arcs
arcs_written [] entries many low each = refl
arcs_written (arc ∷ arcs) [] many low each = absurd (omega arith)
arcs_written (arc ∷ arcs) (entry ∷ entries) many low each =
    let first : kept_arc (record { site = arc.site; cost = arc.cost }) entry ≡ loose_arc arc =
    one_written arc entry low.0 (each 0 (omega arith)) in
    let rest : arcs_by (shape_of arcs) entries ≡ map loose_arc arcs =
    arcs_written arcs entries (omega arith) low.1 (λ k less. each (suc k) (omega arith)) in
    ap (λ a. a ∷ arcs_by (shape_of arcs) entries) first ∙ ap (λ rest. loose_arc arc ∷ rest) rest

-- the bare arcs, place by place
pub length-bare_arcs : (shape : List SiteCost) (entries : List ℕ) → length shape ≤ length entries
    → length (bare_arcs shape entries) ≡ length shape
length-bare_arcs shape entries many =
    length-map (arcs_by shape entries) (λ a. a.arc) ∙ length-arcs_by shape entries many

-- the bare arc at a place is that of its entry
pub get_or-bare_arcs : (shape : List SiteCost) (entries : List ℕ) (i : ℕ) (d : Arc) (z : SiteCost) → i < length shape
    → length shape ≤ length entries
    → get_or (bare_arcs shape entries) i d ≡ entry_arc (get_or shape i z) (get_or entries i 0)
get_or-bare_arcs [] entries i d z inside many = absurd (omega arith)
get_or-bare_arcs (at ∷ shape) [] i d z inside many = absurd (omega arith)
get_or-bare_arcs (at ∷ shape) (entry ∷ entries) zero d z inside many = refl
get_or-bare_arcs (at ∷ shape) (entry ∷ entries) (suc i) d z inside many =
    get_or-bare_arcs shape entries i d z (omega arith) (omega arith)
