-- Rows that are read in turn: what the rows and the first fault are, and what holds of the rows.
use Rattle.std.proofs.Common.{◌≡◌, ◌∙◌, ◌⊎◌, inl, inr, ◌<◌, ◌+◌, ℕ, Bool, true, false, cond, List, [], ◌∷◌, ◌++◌}
use Rattle.std.proofs.Common.{length, Result, Ok, Err, append_assoc, refl, sym, ap, subst, arith}
use Rattle.std.proofs.lemmas.List.{append-nil, length-append}
use Rattle.std.proofs.lemmas.Map.Keys.{IsDistinct-push}
use Rattle.std.specs.Cmp.{IsEquivalence}
use Rattle.std.specs.List.{AllByRecursion, IsDistinct, list_any}
use Rattle.hsp_tables.specs.declared.fault.TableFault.{TableFault}
use Rattle.hsp_text.specs.Answers.{◌>>=◌}
use Rattle.hsp_tables.specs.InTurn.{AreKeyed, FaultStays, Reading, SpellInTurn, rows_after, with_row}
use Rattle.hsp_text.proofs.Lists.{all_push}
use Rattle.hsp_text.proofs.Steps.{first_step}

-- under a test two steps that ended well gave what both made
pub two_steps : {A B C : Type 0} (test : Bool) (bad : TableFault) (a : Result A TableFault) (b : Result B TableFault)
    (made : A → B → C) (c : C)
    → cond test (a >>= λ x. b >>= λ y. Ok (made x y)) (Err bad) ≡ Ok c
    → (test ≡ true) × (x : A) × (y : B) × (a ≡ Ok x) × (b ≡ Ok y) × (made x y ≡ c)
two_steps test bad a b made c e = grind arith

-- the row of a further item stands after the others
pub row_joins : {Item Row : Type 0} (read : Reading Item Row) (earlier : List Row) (item : Item) (rows : List Row)
    → with_row read earlier item ≡ Ok rows → (row : Row) × (read earlier item ≡ Ok row) × (rows ≡ earlier ++ row ∷ [])
row_joins read earlier item rows e = grind arith

-- the items in two parts
pub rows_in_parts : {Item Row : Type 0} (read : Reading Item Row) (earlier : List Row) (a b : List Item)
    → rows_after read earlier (a ++ b) ≡ (rows_after read earlier a >>= λ rows. rows_after read rows b)
rows_in_parts read earlier [] b = refl
rows_in_parts {Row = Row} read earlier (item ∷ a) b =
    let later = λ (rows : List Row). rows_in_parts read rows a b in grind (arith, later)

-- a fault stays, whatever items follow
pub fault_stays : {Item Row : Type 0} (read : Reading Item Row) → FaultStays read
fault_stays read items more fault e = rows_in_parts read [] items more ∙ rw e refl

-- the place of a fault: an item that is refused after items that gave rows
pub record FaultPlace {Item Row : Type 0} (read : Reading Item Row) (earlier : List Row) (items : List Item)
    (fault : TableFault) : Type 0 where
  pub before : List Item
  pub bad : Item
  pub after : List Item
  pub rows : List Row
  pub place : items ≡ before ++ bad ∷ after
  pub good : rows_after read earlier before ≡ Ok rows
  pub refused : read rows bad ≡ Err fault

-- a result is a value or a fault
pub result_cases : {A E : Type 0} (r : Result A E) → ((x : A) × (r ≡ Ok x)) ⊎ ((fault : E) × (r ≡ Err fault))
result_cases (Ok x) = inl (x, refl)
result_cases (Err fault) = inr (fault, refl)

-- every fault has a place
pub fault_place : {Item Row : Type 0} (read : Reading Item Row) (earlier : List Row) (items : List Item)
    (fault : TableFault) → rows_after read earlier items ≡ Err fault → FaultPlace read earlier items fault
fault_place read earlier [] fault e = cc e
fault_place {Item = Item} read earlier (item ∷ items) fault e =
    elim (result_cases (read earlier item)) [
      | inl (row, is) ↦
          let p = fault_place read (earlier ++ row ∷ []) items fault (rw is at e) in
          record {
            before = item ∷ p.before;
            bad = p.bad;
            after = p.after;
            rows = p.rows;
            place = ap (λ (t : List Item). item ∷ t) p.place;
            good = rw is p.good;
            refused = p.refused;
          }
      | inr (other, is) ↦
          record {
            before = [];
            bad = item;
            after = items;
            rows = earlier;
            place = refl;
            good = refl;
            refused = grind (arith, is);
          }
    ]

-- what holds of no rows, and still holds with each further one, holds of all
pub rows_keep : {Item Row : Type 0} (P : List Row → Type 0) (read : Reading Item Row)
    → ((earlier : List Row) (item : Item) (row : Row) → P earlier → read earlier item ≡ Ok row
    → P (earlier ++ row ∷ []))
    → (items : List Item) (earlier rows : List Row) → P earlier → rows_after read earlier items ≡ Ok rows → P rows
rows_keep P read keep [] earlier rows holds e = let same : earlier ≡ rows = cc in subst P same holds
rows_keep P read keep (item ∷ items) earlier rows holds e =
    let s = first_step (with_row read earlier item) (λ t. rows_after read t items) rows e in
    let j = row_joins read earlier item s.0 s.1 in
    rows_keep P read keep items s.0 rows (subst P (sym j.2) (keep earlier item j.0 holds j.1)) s.2

-- one more row, within the limit and of a new key
pub keyed_and_one : {Row : Type 0} (most : ℕ) (Is : Row → Type 0) (same_key : Row → Row → Bool) → IsEquivalence same_key
    → (rows : List Row) (row : Row) → AreKeyed most Is same_key rows → length rows < most → Is row
    → list_any (same_key row) rows ≡ false → AreKeyed most Is same_key (rows ++ row ∷ [])
keyed_and_one most Is same_key laws rows row are few is new = record {
  few = simp length-append (omega arith);
  each = all_push Is rows row are.each is;
  apart = IsDistinct-push laws rows row are.apart new;
}

-- no rows are within every limit
pub none_keyed : {Row : Type 0} (most : ℕ) (Is : Row → Type 0) (same_key : Row → Row → Bool)
    → AreKeyed most Is same_key []
unfolding IsDistinct
none_keyed most Is same_key = record { few = omega arith; each = tt; apart = tt }

-- rows that are read stand after those before them
pub rows_extend : {Item Row : Type 0} (read : Reading Item Row) (items : List Item) (earlier rows : List Row)
    → rows_after read earlier items ≡ Ok rows → (more : List Row) × (rows ≡ earlier ++ more)
rows_extend read [] earlier rows e = let same : earlier ≡ rows = cc (e) in ([], sym same ∙ sym (append-nil earlier))
rows_extend read (item ∷ items) earlier rows e =
    let step = first_step (with_row read earlier item) (λ t. rows_after read t items) rows e in
    let joins = row_joins read earlier item step.0 step.1 in
    let later = rows_extend read items step.0 rows step.2 in
    (joins.0 ∷ later.0, later.1 ∙ ap (λ t. t ++ later.0) joins.2 ∙ append_assoc earlier (joins.0 ∷ []) later.0)

-- what each item spells holds of each row
pub all_spelled : {Item Row : Type 0} (Is : Row → Type 0) (row_in : ℕ → Item → Result Row TableFault)
    → ((n : ℕ) (item : Item) (row : Row) → row_in n item ≡ Ok row → Is row)
    → (n : ℕ) (items : List Item) (rows : List Row) → SpellInTurn row_in n items rows → AllByRecursion Is rows
all_spelled Is row_in is n [] [] spelled = tt
all_spelled Is row_in is n [] (row ∷ rows) spelled = absurd spelled
all_spelled Is row_in is n (item ∷ items) [] spelled = absurd spelled
all_spelled Is row_in is n (item ∷ items) (row ∷ rows) spelled =
    (is n item row spelled.0, all_spelled Is row_in is (n + 1) items rows spelled.1)

-- a reading with a further test, which the rows with each further one have to fail
module _ {Item Row : Type 0} (read : Reading Item Row) (bad : List Row → Bool) (fault : TableFault) where
  abbrev pub tested : Reading Item Row
  tested earlier item = read earlier item >>= λ row. cond (bad (earlier ++ row ∷ [])) (Err fault) (Ok row)

  -- a row that passes the test was read
  row_passed : (earlier : List Row) (item : Item) (row : Row) → tested earlier item ≡ Ok row
      → (read earlier item ≡ Ok row) × (bad (earlier ++ row ∷ []) ≡ false)
  row_passed earlier item row e = grind arith

  -- the rows that pass it are those that are read
  pub passed_are_read : (items : List Item) (earlier rows : List Row) → rows_after tested earlier items ≡ Ok rows
      → rows_after read earlier items ≡ Ok rows
  passed_are_read [] earlier rows e = e
  passed_are_read (item ∷ items) earlier rows e =
      let later = λ (t : List Row). passed_are_read items t rows in grind (arith, later)

  -- rows that pass the test are good ones
  pub passed_are_good : (items : List Item) (rows : List Row) → bad [] ≡ false → rows_after tested [] items ≡ Ok rows
      → bad rows ≡ false
  passed_are_good items rows none e =
      rows_keep (λ (t : List Row). bad t ≡ false) tested
      (λ earlier item row good is. (row_passed earlier item row is).1) items [] rows none e

  -- where rows fail it, so do the first of them
  pub good_are_passed : ((a b : List Row) → bad (a ++ b) ≡ false → bad a ≡ false)
      → (items : List Item) (earlier rows : List Row) → rows_after read earlier items ≡ Ok rows → bad rows ≡ false
      → rows_after tested earlier items ≡ Ok rows
  good_are_passed grow [] earlier rows e good = e
  good_are_passed grow (item ∷ items) earlier rows e good =
      let step = first_step (with_row read earlier item) (λ t. rows_after read t items) rows e in
      let joins = row_joins read earlier item step.0 step.1 in
      let more = rows_extend read items step.0 rows step.2 in
      let here : bad (earlier ++ joins.0 ∷ []) ≡ false = rw joins.2 at (grow step.0 more.0 (rw more.1 at good)) in
      rw (joins.1, here, ← joins.2) (good_are_passed grow items step.0 rows step.2 good)
