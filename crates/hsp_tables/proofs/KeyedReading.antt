-- Rows that are read in turn by their numbers and keys are just those that the items spell.
use Rattle.std.proofs.Common.{◌≡◌, ◌∙◌, ◌≤◌, ◌<◌, ◌+◌, ℕ, Bool, false, List, [], ◌∷◌, ◌++◌, length, Result, Ok}
use Rattle.std.proofs.Common.{append_assoc, refl, sym, ap, arith}
use Rattle.std.proofs.lemmas.Bool.Decides.{nat_tests}
use Rattle.std.proofs.lemmas.List.{append-nil, length-append}
use Rattle.std.specs.Cmp.{IsEquivalence}
use Rattle.std.specs.List.{AllByRecursion, IsDistinct, list_any}
use Rattle.hsp_tables.specs.declared.fault.TableFault.{TableFault}
use Rattle.hsp_tables.specs.InTurn.{AreKeyed, Reading, ReadsAsSpelled, SpellInTurn, keyed_after, rows_after, with_row}
use Rattle.hsp_tables.proofs.TurnLaws.{keyed_and_one, none_keyed, row_joins, rows_keep}
use Rattle.hsp_text.proofs.Steps.{first_step, le_false}

-- a row in the middle, of rows of which something holds
middle : {Row : Type 0} (P : Row → Type 0) (a : List Row) (row : Row) (b : List Row) → AllByRecursion P (a ++ row ∷ b)
    → P row
middle P [] row b all = all.0
middle P (x ∷ a) row b all = middle P a row b all.1

-- among distinct keys a row has no key of an earlier row
new_among : {Row : Type 0} (same : Row → Row → Bool) → IsEquivalence same
    → (earlier : List Row) (row : Row) (rest : List Row) → IsDistinct same (earlier ++ row ∷ rest)
    → list_any (same row) earlier ≡ false
unfolding IsDistinct
new_among same laws [] row rest apart = refl
new_among same laws (x ∷ earlier) row rest apart =
    rw (
      laws.symm row x ∙ middle (λ y. same x y ≡ false) earlier row rest apart.0,
      new_among same laws earlier row rest apart.1,
    ) refl

module _ (Item Row : Type 0) (most : ℕ) (many : TableFault) (row_in : ℕ → Item → Result Row TableFault)
    (same : Row → Row → Bool) (twice : ℕ → TableFault) where
  abbrev read : Reading Item Row
  read = keyed_after most many row_in same twice

  -- a row that is read is spelled, is not one too many, and has a new key
  pub keyed_row : (earlier : List Row) (item : Item) (row : Row)
      → keyed_after most many row_in same twice earlier item ≡ Ok row
      → (length earlier < most) × (row_in (length earlier) item ≡ Ok row) × (list_any (same row) earlier ≡ false)
  keyed_row earlier item row e = grind (arith, nat_tests)

  module _ (laws : IsEquivalence same) where
    -- rows that are spelled, within the limit, no two with one key, are all read
    all_are_read : (number : ℕ) (earlier : List Row) (items : List Item) (rows : List Row) → number ≡ length earlier
        → SpellInTurn row_in number items rows
        → length (earlier ++ rows) ≤ most → IsDistinct same (earlier ++ rows)
        → rows_after read earlier items ≡ Ok (earlier ++ rows)
    all_are_read number earlier [] [] numbered spelled few apart = rw append-nil refl
    all_are_read number earlier [] (row ∷ rows) numbered spelled few apart = absurd spelled
    all_are_read number earlier (item ∷ more) [] numbered spelled few apart = absurd spelled
    all_are_read number earlier (item ∷ more) (row ∷ rows) numbered spelled few apart =
        let parts : (earlier ++ row ∷ []) ++ rows ≡ earlier ++ row ∷ rows = append_assoc earlier (row ∷ []) rows in
        let room : length earlier < most = omega (arith, length-append earlier (row ∷ rows), few) in
        let here : row_in (length earlier) item ≡ Ok row = rw (← numbered) spelled.0 in
        let new : list_any (same row) earlier ≡ false = new_among same laws earlier row rows apart in
        let next : with_row read earlier item ≡ Ok (earlier ++ row ∷ []) = rw (le_false _ _ room, here, new) refl in
        let later : rows_after read (earlier ++ row ∷ []) more ≡ Ok ((earlier ++ row ∷ []) ++ rows) =
        all_are_read (number + 1) (earlier ++ row ∷ []) more rows
        (omega (arith, length-append earlier (row ∷ []), numbered)) spelled.1 (rw parts few) (rw parts apart) in
        rw (next, ← parts) later

    -- rows that are read are spelled
    read_are_spelled : (number : ℕ) (earlier : List Row) (items : List Item) (all : List Row) → number ≡ length earlier
        → rows_after read earlier items ≡ Ok all
        → (rows : List Row) × (all ≡ earlier ++ rows) × SpellInTurn row_in number items rows
    read_are_spelled number earlier [] all numbered e =
        let none : earlier ≡ all = cc (e) in ([], sym none ∙ sym (append-nil earlier), tt)
    read_are_spelled number earlier (item ∷ more) all numbered e =
        let step = first_step (with_row read earlier item) (λ t. rows_after read t more) all e in
        let joins = row_joins read earlier item step.0 step.1 in
        let one : length step.0 ≡ length earlier + 1 = rw joins.2 (length-append earlier (joins.0 ∷ [])) in
        let later = read_are_spelled (number + 1) step.0 more all (omega (arith, one, numbered)) step.2 in
        let row = keyed_row earlier item joins.0 joins.1 in (
          joins.0 ∷ later.0,
          later.1 ∙ ap (λ t. t ++ later.0) joins.2 ∙ append_assoc earlier (joins.0 ∷ []) later.0,
          (rw numbered row.1, later.2),
        )

    -- one row more
    keeps : (earlier : List Row) (item : Item) (row : Row) → AreKeyed most (λ _. Unit {0}) same earlier
        → read earlier item ≡ Ok row → AreKeyed most (λ _. Unit {0}) same (earlier ++ row ∷ [])
    keeps earlier item row are e =
        let is = keyed_row earlier item row e in
        keyed_and_one most (λ _. Unit {0}) same laws earlier row are is.0 tt is.2

    -- rows of different keys are read just where the items spell them
    pub reads_as_spelled : ReadsAsSpelled most row_in same read
    reads_as_spelled items rows = (
      λ e.
          let spelled = read_are_spelled 0 [] items rows refl e in
          let are =
          rows_keep (λ (t : List Row). AreKeyed most (λ _. Unit {0}) same t) read keeps items [] rows
          (none_keyed most (λ _. Unit {0}) same) e in
          record { spelled = rw spelled.1 spelled.2; few = are.few; apart = are.apart },
      λ is. all_are_read 0 [] items rows refl is.spelled is.few is.apart,
    )
