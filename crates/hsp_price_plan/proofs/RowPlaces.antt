-- Rows by their places in memory.
use Rattle.std.proofs.Common.{◌≡◌, ◌≤◌, ◌<◌, ◌+◌, ◌*◌, ◌∙◌, ◌++◌, ℕ, zero, suc, List, [], ◌∷◌, drop, length, take}
use Rattle.std.proofs.Common.{get_or, ap, arith, refl, set, sym}
use Rattle.std.proofs.Math.Nat.{mul-le-mul_right, suc-mul, zero-mul}
use Rattle.std.proofs.lemmas.List.{drop-append-le, drop-drop, drop-take, drop_at, length-append, length-drop}
use Rattle.std.proofs.lemmas.List.{length-take, take-append-le}
use Rattle.std.proofs.lemmas.List.{take-take, take_at}
use Rattle.hsp_prices.specs.KeptRows.{KeptRow}
use Rattle.hsp_price_plan.specs.Held.{rows_by}
use Rattle.hsp_price_plan.specs.Keeping.{row_by}
use Rattle.hsp_price_plan.specs.Regions.{RegionArcs, region_at}

-- the entries of a row
abbrev pub entries_at : ℕ → ℕ → List ℕ → List ℕ
entries_at sites row places = take sites (drop (row * sites) places)

-- they lie within the places
pub place_within : (rows row sites : ℕ) → row < rows → row * sites + sites ≤ rows * sites
place_within rows row sites inside =
    let one : suc row * sites ≡ row * sites + sites = suc-mul row sites in
    let more : suc row ≤ rows = omega arith in
    omega (arith, one, mul-le-mul_right sites more)

-- a row has as many entries as there are sites
pub length-entries_at : (rows row sites : ℕ) (places : List ℕ) → row < rows → length places ≡ rows * sites
    → length (entries_at sites row places) ≡ sites
length-entries_at rows row sites places inside many =
    simp (length-take, length-drop) (omega (arith, place_within rows row sites inside, many))

-- there are as many rows as regions of them
pub length-rows_by : (sites : ℕ) (regions : List RegionArcs) (numbers counts places : List ℕ)
    → length counts ≡ length numbers → length (rows_by sites regions numbers counts places) ≡ length numbers
length-rows_by sites regions [] counts places same = refl
length-rows_by sites regions (number ∷ numbers) [] places same = absurd (omega (arith, same))
length-rows_by sites regions (number ∷ numbers) (count ∷ counts) places same =
    ap suc (length-rows_by sites regions numbers counts (drop sites places) (omega (arith, same)))

-- the entries of the next row stand behind those of this one
next_place : (sites row : ℕ) (places : List ℕ) → drop (row * sites) (drop sites places) ≡ drop (suc row * sites) places
next_place sites row places =
    let sum : sites + row * sites ≡ suc row * sites = omega (arith, suc-mul row sites) in
    drop-drop (row * sites) sites places ∙ ap (λ n. drop n places) sum

-- the row at a place is that of its numbers and entries
pub get_or-rows_by : (sites : ℕ) (regions : List RegionArcs) (numbers counts places : List ℕ) (row : ℕ) (d : KeptRow)
    → row < length numbers → length counts ≡ length numbers
    → get_or (rows_by sites regions numbers counts places) row d
    ≡ row_by (region_at regions (get_or numbers row 0)) (entries_at sites row places) (get_or counts row 0)
get_or-rows_by sites regions [] counts places row d inside same = absurd (omega arith)
get_or-rows_by sites regions (number ∷ numbers) [] places row d inside same = absurd (omega (arith, same))
get_or-rows_by sites regions (number ∷ numbers) (count ∷ counts) places zero d inside same =
    ap (λ n. row_by (region_at regions number) (take sites (drop n places)) count) (sym (zero-mul sites))
get_or-rows_by sites regions (number ∷ numbers) (count ∷ counts) places (suc row) d inside same =
    get_or-rows_by sites regions numbers counts (drop sites places) row d (omega arith) (omega (arith, same))
    ∙ ap (λ entries. row_by (region_at regions (get_or numbers row 0)) (take sites entries) (get_or counts row 0))
    (next_place sites row places)

-- the places with other entries of a row
abbrev pub with_entries : ℕ → ℕ → List ℕ → List ℕ → List ℕ
with_entries sites at places entries = take at places ++ (entries ++ drop sites (drop at places))

-- entries that change change their row only
pub rows_by-with_entries : (sites : ℕ) (regions : List RegionArcs) (numbers counts places entries : List ℕ) (row : ℕ)
    → row < length numbers → length counts ≡ length numbers → length places ≡ length numbers * sites
    → length entries ≡ sites
    → rows_by sites regions numbers counts (with_entries sites (row * sites) places entries)
    ≡ set (rows_by sites regions numbers counts places) row
    (row_by (region_at regions (get_or numbers row 0)) entries (get_or counts row 0))
rows_by-with_entries sites regions [] counts places entries row inside same many own = absurd (omega arith)
rows_by-with_entries sites regions (number ∷ numbers) [] places entries row inside same many own =
    absurd (omega (arith, same))
rows_by-with_entries sites regions (number ∷ numbers) (count ∷ counts) places entries zero inside same many own =
    ap (λ n. rows_by sites regions (number ∷ numbers) (count ∷ counts) (with_entries sites n places entries))
    (zero-mul sites)
    ∙ ap (λ first. row_by (region_at regions number) first count
    ∷ rows_by sites regions numbers counts (drop sites (entries ++ drop sites places)))
    (take_at entries (drop sites places) sites own)
    ∙ ap (λ rest. row_by (region_at regions number) entries count ∷ rows_by sites regions numbers counts rest)
    (drop_at entries (drop sites places) sites own)
rows_by-with_entries sites regions (number ∷ numbers) (count ∷ counts) places entries (suc row) inside same many own =
    let at : suc row * sites ≡ sites + row * sites = omega (arith, suc-mul row sites) in
    let long : sites ≤ length places = omega (arith, many, suc-mul (length numbers) sites) in
    let rest_long : length (drop sites places) ≡ length numbers * sites =
    length-drop sites places ∙ omega (arith, many, suc-mul (length numbers) sites) in
    let front = take (sites + row * sites) places in
    let tail = entries ++ drop sites (drop (sites + row * sites) places) in
    let front_long : sites ≤ length front = rw length-take (omega (arith, long)) in
    let first : take sites (front ++ tail) ≡ take sites places =
    take-append-le sites front tail front_long ∙ take-take sites (sites + row * sites) places (omega arith) in
    let below : drop sites (front ++ tail) ≡ with_entries sites (row * sites) (drop sites places) entries =
    drop-append-le sites front tail front_long
    ∙ ap (λ part. part ++ tail) (drop-take sites (row * sites) places)
    ∙ ap (λ part. take (row * sites) (drop sites places) ++ (entries ++ drop sites part))
    (sym (drop-drop (row * sites) sites places)) in
    ap (λ n. rows_by sites regions (number ∷ numbers) (count ∷ counts) (with_entries sites n places entries)) at
    ∙ ap (λ part. row_by (region_at regions number) part count
    ∷ rows_by sites regions numbers counts (drop sites (front ++ tail))) first
    ∙ ap (λ part. row_by (region_at regions number) (take sites places) count
    ∷ rows_by sites regions numbers counts part) below
    ∙ ap (λ rows. row_by (region_at regions number) (take sites places) count ∷ rows)
    (rows_by-with_entries sites regions numbers counts (drop sites places) entries row (omega arith)
    (omega (arith, same)) rest_long own)

-- there are as many entries as before
pub length-with_entries : (rows row sites : ℕ) (places entries : List ℕ) → row < rows → length places ≡ rows * sites
    → length entries ≡ sites → length (with_entries sites (row * sites) places entries) ≡ length places
length-with_entries rows row sites places entries inside many own =
    simp (length-append, length-take, length-drop) (omega (arith, place_within rows row sites inside, many, own))
