-- Arcs that are kept one after another.
use Rattle.std.proofs.Common.{◌≡◌, ◌≤◌, ◌<◌, ◌+◌, ◌%◌, ◌∙◌, ◌++◌, ◌∷◌, ℕ, zero, Bool, true, false, List, []}
use Rattle.std.proofs.Common.{drop, length, map, ap, arith, filter, get_or, refl, set, subst, suc, sym, take, take_all}
use Rattle.std.proofs.lemmas.List.{append-nil, drop_all, drop_more, map-append}
use Rattle.std.proofs.lemmas.List.Elements.{filter_more}
use Rattle.std.proofs.lemmas.List.Edits.{map_over_more}
use Rattle.std.specs.Prelude.{◌&&◌, nat_le, not, if◌then◌else◌}
use Rattle.std.specs.List.{AllByRecursion, list_all}
use Rattle.hsp_instance.specs.declared.arc.Arc.{Arc}
use Rattle.hsp_prices.specs.KeptRows.{KeptArc, kept_if}
use Rattle.hsp_price_plan.specs.Entries.{AreKept, IsKeptEntry, arcs_by, bare_arcs, entry_arc, kept_arc, loose_count}
use Rattle.hsp_price_plan.specs.declared.entries.TheConstants.{KEPT}
use Rattle.hsp_price_plan.specs.declared.region.SiteCost.{SiteCost}
use Rattle.hsp_price_plan.proofs.ArcEntries.{arcs_by-set, bare_at, get_or-arcs_by, length-arcs_by}
use Rattle.hsp_price_plan.proofs.Halves.{half_at}

-- 1 where an arc isn't kept
abbrev pub loose : KeptArc → ℕ
loose a = if a.is_kept then 0 else 1

-- one more arc counts where it is loose
pub one_loose : (a : KeptArc) (arcs : List KeptArc) → loose_count (a ∷ arcs) ≡ loose a + loose_count arcs
one_loose a arcs =
    elim a.is_kept as (λ kept.
    length (if not kept then a ∷ filter (λ b. not b.is_kept) arcs else filter (λ b. not b.is_kept) arcs)
    ≡ (if kept then 0 else 1) + loose_count arcs) [ true ↦ omega arith | false ↦ omega arith ]

-- an arc that changes changes the count by its own
loose_count-set : (arcs : List KeptArc) (i : ℕ) (a d : KeptArc) → i < length arcs
    → loose_count (set arcs i a) + loose (get_or arcs i d) ≡ loose_count arcs + loose a
loose_count-set [] i a d inside = absurd (omega arith)
loose_count-set (b ∷ arcs) zero a d inside = omega (arith, one_loose a arcs, one_loose b arcs)
loose_count-set (b ∷ arcs) (suc i) a d inside =
    let rest : loose_count (set arcs i a) + loose (get_or arcs i d) ≡ loose_count arcs + loose a =
    loose_count-set arcs i a d (omega arith) in
    omega (arith, one_loose b (set arcs i a), one_loose b arcs, rest)

-- an entry counts once at most
few_entry : (old new count : ℕ) (passes : Bool) → IsKeptEntry passes old new count → count ≤ 1
few_entry old new count passes is =
    elim (nat_le KEPT old) as (λ b. count + (if nat_le KEPT new then 0 else 1) ≡ (if b then 0 else 1) → count ≤ 1) [
      | true ↦ λ e. omega (arith, e)
      | false ↦ λ e. omega (arith, e)
    ] is.counted

-- of the first arcs of a row those are kept too that pass a test
pub record AreMarked (test : Arc → Bool) (shape : List SiteCost) (old now : List ℕ) (i kept : ℕ) : Type 0 where
  pub arcs : arcs_by shape now ≡ map (kept_if test) (take i (arcs_by shape old)) ++ drop i (arcs_by shape old)
  pub counted : kept + loose_count (arcs_by shape now) ≡ loose_count (arcs_by shape old)
  pub few : kept ≤ i

-- an arc by its entry, once it is kept where it passes
kept_entry : (test : Arc → Bool) (at : SiteCost) (old new count : ℕ)
    → IsKeptEntry (test (entry_arc at old)) old new count → kept_arc at new ≡ kept_if test (kept_arc at old)
kept_entry test at old new count is = rw (is.server, is.is_kept) refl

-- one entry more is marked as the test says
pub marked_more : (test : Arc → Bool) (shape : List SiteCost) (old now : List ℕ) (i kept entry count : ℕ) (z : SiteCost)
    → i < length shape → length shape ≤ length now → length now ≡ length old
    → IsKeptEntry (test (entry_arc (get_or shape i z) (get_or now i 0))) (get_or now i 0) entry count
    → AreMarked test shape old now i kept → AreMarked test shape old (set now i entry) (i + 1) (kept + count)
marked_more test shape old now i kept entry count z inside many same is so =
    let at = get_or shape i z in
    let was = kept_arc at (get_or now i 0) in
    let own = kept_entry test at (get_or now i 0) entry count is in
    let set_is : arcs_by shape (set now i entry) ≡ set (arcs_by shape now) i (kept_arc at entry) =
    arcs_by-set shape now i entry z in
    let read : was ≡ get_or (arcs_by shape now) i was = sym (get_or-arcs_by shape now i was z inside many) in
    let old_many : length (arcs_by shape old) ≡ length shape = length-arcs_by shape old (omega arith) in
    let now_many : length (arcs_by shape now) ≡ length shape = length-arcs_by shape now many in
    let sums = loose_count-set (arcs_by shape now) i (kept_arc at entry) was (omega arith) in
    record {
      arcs =
          set_is ∙ ap (set (arcs_by shape now) i) own
          ∙ map_over_more (kept_if test) (arcs_by shape old) (arcs_by shape now) i was (omega arith) so.arcs read;
      counted =
          let after : loose_count (arcs_by shape (set now i entry))
          ≡ loose_count (set (arcs_by shape now) i (kept_arc at entry)) =
          ap loose_count set_is in
          let here : loose_count (set (arcs_by shape now) i (kept_arc at entry)) + loose was
          ≡ loose_count (arcs_by shape now) + loose (kept_arc at entry) =
          rw (← read) at sums in
          omega (arith, after, here, so.counted, is.counted);
      few = omega (arith, so.few, few_entry (get_or now i 0) entry count _ is);
    }

-- all arcs that pass the test are kept
pub marked_all : (test : Arc → Bool) (shape : List SiteCost) (old now : List ℕ) (i kept : ℕ) → i ≡ length shape
    → length shape ≤ length old → AreMarked test shape old now i kept
    → AreKept test (arcs_by shape old) (arcs_by shape now) kept
marked_all test shape old now i kept end many so =
    let old_many : length (arcs_by shape old) ≡ length shape = length-arcs_by shape old many in
    let none : drop i (arcs_by shape old) ≡ [] = drop_all i (arcs_by shape old) (omega arith) in
    let all : take i (arcs_by shape old) ≡ arcs_by shape old = take_all i (arcs_by shape old) (omega arith) in
    record {
      arcs = so.arcs ∙ rw (none, all) (append-nil (map (kept_if test) (arcs_by shape old)));
      counted = so.counted;
      few = omega (arith, so.few);
    }

-- each kept arc leads into a set
abbrev pub all_into : (ℕ → Bool) → List KeptArc → Bool
all_into set arcs = list_all (λ arc. set arc.server) (map (λ a. a.arc) (filter (λ a. a.is_kept) arcs))

-- an arc that is kept and leads out of the set decides it
into_step : (set : ℕ → Bool) (a : KeptArc) (arcs : List KeptArc)
    → all_into set (a ∷ arcs) ≡ (not (a.is_kept && not (set a.arc.server)) && all_into set arcs)
into_step set a arcs =
    elim a.is_kept as (λ kept.
    list_all (λ arc. set arc.server)
    (map (λ b. b.arc) (if kept then a ∷ filter (λ b. b.is_kept) arcs else filter (λ b. b.is_kept) arcs))
    ≡ (not (kept && not (set a.arc.server)) && all_into set arcs)) [
      | true ↦
          elim (set a.arc.server) as (λ inside. (inside && all_into set arcs)
          ≡ (not (not inside) && all_into set arcs)) [
            | true ↦ refl
            | false ↦ refl
          ]
      | false ↦ refl
    ]

-- what is left to test from an arc on
pub into_from : (set : ℕ → Bool) (shape : List SiteCost) (entries : List ℕ) (i : ℕ) (out : Bool) (z : SiteCost)
    → i < length shape → length shape ≤ length entries
    → out ≡ (nat_le KEPT (get_or entries i 0) && not (set (get_or entries i 0 % KEPT)))
    → all_into set (drop i (arcs_by shape entries))
    ≡ (not out && all_into set (drop (i + 1) (arcs_by shape entries)))
into_from set shape entries i out z inside many is =
    let arcs = arcs_by shape entries in
    let own = kept_arc (get_or shape i z) (get_or entries i 0) in
    let all : length arcs ≡ length shape = length-arcs_by shape entries many in
    ap (all_into set) (drop_more arcs i own (omega arith))
    ∙ ap (λ a. all_into set (a ∷ drop (i + 1) arcs)) (get_or-arcs_by shape entries i own z inside many)
    ∙ into_step set own (drop (i + 1) arcs) ∙ ap (λ b. not b && all_into set (drop (i + 1) arcs)) (sym is)

-- past the last arc all lead into the set
pub into_all : (set : ℕ → Bool) (shape : List SiteCost) (entries : List ℕ) (i : ℕ) → length shape ≤ i
    → length shape ≤ length entries → all_into set (drop i (arcs_by shape entries)) ≡ true
into_all set shape entries i end many =
    let all : length (arcs_by shape entries) ≡ length shape = length-arcs_by shape entries many in
    ap (all_into set) (drop_all i (arcs_by shape entries) (omega arith))

-- an arc is as it was where the arcs before it are kept
pub bare_now : (P : Arc → Type 0) (test : Arc → Bool) (shape : List SiteCost) (old now : List ℕ) (i kept : ℕ)
    (z : SiteCost) → i < length shape → length shape ≤ length old → length now ≡ length old
    → AreMarked test shape old now i kept → AllByRecursion P (bare_arcs shape old)
    → P (entry_arc (get_or shape i z) (get_or now i 0))
bare_now P test shape old now i kept z inside many same so all =
    let d = kept_arc (get_or shape i z) 0 in
    let old_many : length (arcs_by shape old) ≡ length shape = length-arcs_by shape old many in
    let is : kept_arc (get_or shape i z) (get_or now i 0) ≡ kept_arc (get_or shape i z) (get_or old i 0) =
    sym (get_or-arcs_by shape now i d z inside (omega arith)) ∙ ap (λ arcs. get_or arcs i d) so.arcs
    ∙ half_at (kept_if test) (arcs_by shape old) i d (omega arith) ∙ get_or-arcs_by shape old i d z inside many in
    let Q : KeptArc → Type 0 = λ a. P a.arc in
    subst Q (sym is) (bare_at P shape old i z inside many all)

-- the bare arcs of one arc, where it is kept
one_bare : (a : KeptArc)
    → map (λ (b : KeptArc). b.arc) (if a.is_kept then a ∷ [] else []) ≡ (if a.is_kept then a.arc ∷ [] else [])
one_bare a =
    elim a.is_kept as (λ kept. map (λ (b : KeptArc). b.arc) (if kept then a ∷ [] else [])
    ≡ (if kept then a.arc ∷ [] else [])) [ true ↦ refl | false ↦ refl ]

-- the kept arcs, with one arc more
pub kept_more : (shape : List SiteCost) (entries : List ℕ) (i : ℕ) (z : SiteCost) → i < length shape
    → length shape ≤ length entries
    → map (λ (a : KeptArc). a.arc) (filter (λ a. a.is_kept) (take (i + 1) (arcs_by shape entries)))
    ≡ map (λ a. a.arc) (filter (λ a. a.is_kept) (take i (arcs_by shape entries)))
    ++ (if nat_le KEPT (get_or entries i 0) then entry_arc (get_or shape i z) (get_or entries i 0) ∷ [] else [])
kept_more shape entries i z inside many =
    let arcs = arcs_by shape entries in
    let own = kept_arc (get_or shape i z) (get_or entries i 0) in
    let all : length arcs ≡ length shape = length-arcs_by shape entries many in
    ap (map (λ (a : KeptArc). a.arc)) (filter_more (λ (a : KeptArc). a.is_kept) arcs i own (omega arith))
    ∙ map-append (λ (a : KeptArc). a.arc) (filter (λ a. a.is_kept) (take i arcs))
    (if (get_or arcs i own).is_kept then get_or arcs i own ∷ [] else [])
    ∙ ap (λ (a : KeptArc). map (λ (b : KeptArc). b.arc) (filter (λ b. b.is_kept) (take i arcs))
    ++ map (λ (b : KeptArc). b.arc) (if a.is_kept then a ∷ [] else []))
    (get_or-arcs_by shape entries i own z inside many)
    ∙ ap (λ part. map (λ (b : KeptArc). b.arc) (filter (λ b. b.is_kept) (take i arcs)) ++ part) (one_bare own)
