-- One row more.
use Rattle.std.proofs.Common.{◌≡◌, ◌≤◌, ◌<◌, ◌+◌, ◌*◌, ◌^◌, ◌∙◌, ◌++◌, ℕ, List, [], ◌∷◌, drop, length, take, ap, arith}
use Rattle.std.proofs.Common.{inl, inr, refl, suc, sym}
use Rattle.std.proofs.lemmas.Bool.{cases_eq, eq-eqb, ne_eqb}
use Rattle.std.proofs.lemmas.List.{get_or_append_left, get_or_push, length-map, length_push, take-append-drop}
use Rattle.std.proofs.Math.Nat.{suc-mul, zero-mul}
use Rattle.std.proofs.lemmas.List.{drop-append-le, length-drop, nil_from_length, take-append-le, take_all}
use Rattle.std.specs.List.{AllByRecursion}
use Rattle.hsp_text.proofs.Lists.{all_push}
use Rattle.hsp_text.specs.declared.limits.TheConstants.{MOST_LOG_REGIONS}
use Rattle.hsp_instance.proofs.Lists.{all_so}
use Rattle.hsp_instance.specs.declared.arc.Arc.{Arc}
use Rattle.hsp_price_plan.specs.Entries.{IsPushed}
use Rattle.hsp_price_plan.specs.Held.{AreInPlace, loose_row, rows_by}
use Rattle.hsp_price_plan.specs.Keeping.{row_by}
use Rattle.hsp_price_plan.specs.Regions.{RegionArcs, no_region, region_at, region_with, with_region}
use Rattle.hsp_price_plan.proofs.RowKeeping.{row_with}

-- entries that are added make one row more
pub rows_by-push : (sites : ℕ) (regions more : List RegionArcs) (numbers counts places : List ℕ) (number count : ℕ)
    (entries : List ℕ) → length counts ≡ length numbers → length places ≡ length numbers * sites
    → length entries ≡ sites
    → ((k : ℕ) → k < length regions → region_at more k ≡ region_at regions k)
    → AllByRecursion (λ k. k < length regions) numbers
    → rows_by sites more (numbers ++ number ∷ []) (counts ++ count ∷ []) (places ++ entries)
    ≡ rows_by sites regions numbers counts places ++ row_by (region_at more number) entries count ∷ []
rows_by-push sites regions more [] (c ∷ counts) places number count entries same many own stay known =
    absurd (omega (arith, same))
rows_by-push sites regions more [] [] places number count entries same many own stay known =
    let none : places ≡ [] = nil_from_length places (many ∙ zero-mul sites) in
    let all : take sites (places ++ entries) ≡ entries =
    ap (λ front. take sites (front ++ entries)) none ∙ take_all sites entries (omega (arith, own)) in
    ap (λ part. row_by (region_at more number) part count ∷ []) all
rows_by-push sites regions more (n ∷ numbers) [] places number count entries same many own stay known =
    absurd (omega (arith, same))
rows_by-push sites regions more (n ∷ numbers) (c ∷ counts) places number count entries same many own stay known =
    let long : sites ≤ length places = omega (arith, many, suc-mul (length numbers) sites) in
    let rest_long : length (drop sites places) ≡ length numbers * sites =
    length-drop sites places ∙ omega (arith, many, suc-mul (length numbers) sites) in
    let later = λ (part : List ℕ). rows_by sites more (numbers ++ number ∷ []) (counts ++ count ∷ []) part in
    ap (λ part. row_by (region_at more n) part c ∷ later (drop sites (places ++ entries)))
    (take-append-le sites places entries long)
    ∙ ap (λ part. row_by (region_at more n) (take sites places) c ∷ later part)
    (drop-append-le sites places entries long)
    ∙ ap (λ region. row_by region (take sites places) c ∷ later (drop sites places ++ entries)) (stay n known.0)
    ∙ ap (λ rows. row_by (region_at regions n) (take sites places) c ∷ rows)
    (rows_by-push sites regions more numbers counts (drop sites places) number count entries (omega (arith, same))
    rest_long own stay known.1)

-- a list of regions with that of a row
pub record AreGrown (regions more : List RegionArcs) (number : ℕ) (name : List ℕ) (arcs : List Arc) : Type 0 where
  pub below : number < length more
  pub longer : length regions ≤ length more
  pub few : (most : ℕ) → number < most → length regions ≤ most → length more ≤ most
  pub stay : (k : ℕ) → k < length regions → region_at more k ≡ region_at regions k
  pub own : region_at more number ≡ region_with name arcs
  pub shapes : (sites : ℕ) → length arcs ≤ sites → AllByRecursion (λ region. length region.shape ≤ sites) regions
      → AllByRecursion (λ region. length region.shape ≤ sites) more

-- the region of one row more is there, and the others stay
pub grown : (regions : List RegionArcs) (number : ℕ) (name : List ℕ) (arcs : List Arc) → number ≤ length regions
    → (number < length regions → region_at regions number ≡ region_with name arcs)
    → AreGrown regions (with_region regions number name arcs) number name arcs
grown regions number name arcs in_turn known = elim (cases_eq number (length regions)) [
  | inl next ↦
      let one = region_with name arcs in
      let many = length_push regions one in
      rw (eq-eqb number (length regions) next) (record {
        below = omega (arith, many, next);
        longer = omega (arith, many);
        few = λ most less all. omega (arith, many, less, next);
        stay = λ k less. get_or_append_left regions (one ∷ []) no_region k less;
        own = get_or_push regions one no_region number (sym next);
        shapes = λ sites short all.
            all_push (λ region. length region.shape ≤ sites) regions one all (rw length-map short);
      })
  | inr other ↦
      rw (ne_eqb number (length regions) other) (record {
        below = omega (arith, other, in_turn);
        longer = omega arith;
        few = λ most less all. all;
        stay = λ k less. refl;
        own = known (omega (arith, other, in_turn));
        shapes = λ sites short all. all;
      })
]

module _ (sites : ℕ) (regions more : List RegionArcs) (numbers counts places new : List ℕ) (number count : ℕ)
    (name : List ℕ) (arcs : List Arc) (place : AreInPlace sites regions numbers counts places)
    (grows : AreGrown regions more number name arcs) (pushed : IsPushed places sites arcs new) where
  -- all is in place with one row more
  pub in_place_push : length numbers < 2 ^ 32 → length arcs ≤ sites → number < MOST_LOG_REGIONS
      → AreInPlace sites more (numbers ++ number ∷ []) (counts ++ count ∷ []) new
  in_place_push few short low =
      let all = length_push numbers number in
      let all_counts = length_push counts count in
      let sum : suc (length numbers) * sites ≡ length numbers * sites + sites = suc-mul (length numbers) sites in
      let longer : length (numbers ++ number ∷ []) ≡ suc (length numbers) = omega (arith, all) in
      record {
        few_sites = place.few_sites;
        few_regions = grows.few MOST_LOG_REGIONS low place.few_regions;
        few = omega (arith, all, few);
        many_counts = omega (arith, all, all_counts, place.many_counts);
        many_places = rw longer (omega (arith, sum, pushed.many, place.many_places));
        known =
            all_push (λ k. k < length more) numbers number
            (all_so (λ k. k < length regions) (λ k. k < length more) numbers
            (λ k less. omega (arith, less, grows.longer)) place.known) grows.below;
        shapes = grows.shapes sites short place.shapes;
      }

  -- and the rows are those before and this one
  pub rows_push : rows_by sites more (numbers ++ number ∷ []) (counts ++ count ∷ []) new
      ≡ rows_by sites regions numbers counts places ++ loose_row name arcs count ∷ []
  rows_push =
      let entries = drop (length places) new in
      let whole : new ≡ places ++ entries =
      sym (take-append-drop (length places) new) ∙ ap (λ front. front ++ entries) pushed.front in
      let own_many : length entries ≡ sites =
      length-drop (length places) new ∙ omega (arith, pushed.many) in
      let rows = rows_by sites regions numbers counts places in
      ap (rows_by sites more (numbers ++ number ∷ []) (counts ++ count ∷ [])) whole
      ∙ rows_by-push sites regions more numbers counts places number count entries place.many_counts place.many_places
      own_many grows.stay place.known
      ∙ ap (λ region. rows ++ row_by region entries count ∷ []) grows.own
      ∙ ap (λ own. rows ++ row_with name count own ∷ []) pushed.own
