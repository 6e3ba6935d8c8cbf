-- The places that are printed are those of the handles of a log.
use Rattle.std.proofs.Common.{◌≡◌, ◌∙◌, ◌+◌, ◌-◌, ◌^◌, ◌≤◌, inl, inr, ℕ, true, List, [], ◌∷◌, ◌++◌, Option, Some, None}
use Rattle.std.proofs.Common.{Ok, codes, is_some, length, min, append-nil, refl, ap, subst, sym, arith}
use Rattle.std.proofs.lemmas.Bool.Decides.{nat_tests}
use Rattle.std.specs.Cmp.Lexicographic.{bytes_decides}
use Rattle.std.specs.List.{concat, flat_map}
use Rattle.csv.specs.Reading.{strip_bom}
use Rattle.hsp_names.specs.Handle.{ReadingsAreHandles, handle_in, local_name, naming_authority}
use Rattle.hsp_instance.specs.Instance.{Site}
use Rattle.hsp_csv.specs.Row.{Shape, row_of}
use Rattle.hsp_csv.specs.Row.Shape.{blank, one, other, two}
use Rattle.hsp_talk.specs.Talk.{AreTaken, rows_in}
use Rattle.hsp_talk.specs.declared.limits.TheConstants.{LONGEST_ROW}
use Rattle.hsp_stream.specs.PlaceLines.{header_line, place_lines}
use Rattle.hsp_stream.specs.Places.{PlacesState, Step, TakesHandle, answered, at_start, handle_at, handle_by}
use Rattle.hsp_stream.specs.Places.{handle_field, handle_in_row, header_by, header_in, headed, step_by}
use Rattle.hsp_stream.specs.PlacesLaws.{GivesHandle, HandlesIn, HandlesOf, HasHandle, PlacesArePrinted, header_of}
use Rattle.hsp_log.specs.declared.form.HandleForm.{HandleForm}
use Rattle.hsp_log.specs.declared.form.HandleForm.TheVariants.{Handle, RegionAndHandle}
use Rattle.hsp_log.proofs.LogRows.{handle_own}
use Rattle.hsp_text.specs.Answers.{◌>>=◌}
use Rattle.hsp_text.proofs.Steps.{first_step}

-- ---- the header

-- a row from which no header is read is blank
header_none : (shape : Shape) → header_by shape ≡ Ok None → shape ≡ blank
header_none blank e = refl
header_none (one only) e = grind arith
header_none (two first second) e = grind arith
header_none other e = grind arith

-- and one from which one is read is that header
header_some : (shape : Shape) (form : HandleForm) → header_by shape ≡ Ok (Some form) → shape ≡ header_of form
header_some blank form e = grind arith
header_some (one only) form e = grind (arith, bytes_decides only (codes "handle"))
header_some (two first second) form e =
    grind (arith, bytes_decides first (codes "region"), bytes_decides second (codes "handle"))
header_some other form e = grind arith

-- ---- rows

-- a field that is read as a handle is that handle
given : (number : ℕ) (field : Option (List ℕ)) (handle : List ℕ) → handle_at number field ≡ Ok (Some handle)
    → (field ≡ Some handle) × (handle_in handle ≡ Ok handle)
given number field handle e = grind (arith, handle_own)

-- a field is a handle, or its row is refused
none_given : (number : ℕ) (field : Option (List ℕ)) → handle_at number field ≡ Ok None → ⊥
none_given number field e = grind arith

-- a row that has no handle is blank
row_none : (number : ℕ) (form : HandleForm) (shape : Shape) → handle_by number form shape ≡ Ok None → shape ≡ blank
row_none number form blank e = refl
row_none number form (one only) e = absurd (none_given number (handle_field form (one only)) e)
row_none number form (two first second) e = absurd (none_given number (handle_field form (two first second)) e)
row_none number form other e = grind arith

-- a row with a field for its handle has that handle
has_field : (form : HandleForm) (row : List ℕ) (shape : Shape) (handle : List ℕ) → row_of row ≡ shape
    → handle_field form shape ≡ Some handle → HasHandle form row handle
has_field Handle row (one only) handle is e = let same : only ≡ handle = cc (e) in is ∙ ap one same
has_field Handle row blank handle is e = cc (e)
has_field Handle row (two first second) handle is e = cc (e)
has_field Handle row other handle is e = cc (e)
has_field RegionAndHandle row (two first second) handle is e =
    let same : second ≡ handle = cc (e) in (first, is ∙ ap (two first) same)
has_field RegionAndHandle row blank handle is e = cc (e)
has_field RegionAndHandle row (one only) handle is e = cc (e)
has_field RegionAndHandle row other handle is e = cc (e)

-- a row that gives a handle has it as a field, and it is one
row_some : (number : ℕ) (form : HandleForm) (shape : Shape) (handle : List ℕ)
    → handle_by number form shape ≡ Ok (Some handle)
    → (handle_field form shape ≡ Some handle) × (handle_in handle ≡ Ok handle)
row_some number form blank handle e = cc (e)
row_some number form (one only) handle e = given number (handle_field form (one only)) handle e
row_some number form (two first second) handle e = given number (handle_field form (two first second)) handle e
row_some number form other handle e = cc (e)

-- a row that was read is not too long
not_long : (number : ℕ) (form : HandleForm) (row : List ℕ) (found : Option (List ℕ))
    → handle_in_row number form row ≡ Ok found
    → (length row ≤ LONGEST_ROW) × (handle_by number form (row_of row) ≡ Ok found)
not_long number form row found e = grind (arith, nat_tests)

-- a row that is read gives its handle
row_gives : ReadingsAreHandles → (number : ℕ) (form : HandleForm) (row handle : List ℕ)
    → handle_in_row number form row ≡ Ok (Some handle) → GivesHandle form row handle
row_gives handles number form row handle e =
    let read = not_long number form row (Some handle) e in
    let some = row_some number form (row_of row) handle read.1 in
    record {
      whole = read.0;
      field = has_field form row (row_of row) handle refl some.0;
      authority = naming_authority handle;
      local = local_name handle;
      is = (handles handle (naming_authority handle) (local_name handle)).1 (some.1, refl, refl);
    }

-- ---- steps

-- two steps are one state and one answer
same_step : (old next : PlacesState) (a b : List ℕ) → ◌≡◌ {A = Step} (Ok (old, a)) (Ok (next, b))
    → (old ≡ next) × (a ≡ b)
same_step old next a b e =
    let both : ◌≡◌ {A = PlacesState × List ℕ} (old, a) (next, b) = cc (e) in
    (ap (λ (p : PlacesState × List ℕ). p.0) both, ap (λ (p : PlacesState × List ℕ). p.1) both)

-- ---- behind the header

abbrev lines_at : List Site → List (List ℕ) → List ℕ
lines_at sites handles = flat_map (λ (handle : List ℕ). place_lines handle sites) handles

-- the handles of rows were answered by their lines
abbrev AnswersHandles : HandleForm → List Site → List (List ℕ) → List (List ℕ) → Type 0
AnswersHandles form sites rows answers =
    (handles : List (List ℕ)) × HandlesOf form rows handles × (concat answers ≡ lines_at sites handles)

module _ (handles : ReadingsAreHandles) (form : HandleForm) where
  -- the rows behind the header are answered each by the places of its handle
  body : (rows answers : List (List ℕ)) (old last : PlacesState) → old.form ≡ Some form
      → AreTaken TakesHandle old rows last answers
      → AnswersHandles form old.sites rows answers
  body [] [] old last has taken = ([], refl, refl)
  body [] (answer ∷ answers) old last has taken = absurd taken
  body (row ∷ rows) [] old last has taken = absurd taken
  body (row ∷ rows) (answer ∷ answers) old last has (next, takes, more) =
      let read : (handle_in_row old.rows form row >>= answered old) ≡ Ok (next, answer) =
      subst (λ (o : Option HandleForm). step_by old o row ≡ Ok (next, answer)) has takes in
      let found = first_step (handle_in_row old.rows form row) (answered old) (next, answer) read in
      by (λ other. body rows answers other last) found.0 found.1 found.2
    where
      by : ((other : PlacesState) → other.form ≡ Some form → AreTaken TakesHandle other rows last answers
          → AnswersHandles form other.sites rows answers)
          → (found : Option (List ℕ)) → handle_in_row old.rows form row ≡ Ok found
          → answered old found ≡ Ok (next, answer)
          → AnswersHandles form old.sites (row ∷ rows) (answer ∷ answers)
      by again None is e =
          let (same, none) = same_step old next [] answer e in
          let rest = again old has (rw (← same) at more) in
          let read = not_long old.rows form row None is in (
            rest.0,
            inl (row_none old.rows form (row_of row) read.1, rest.1),
            ap (λ a. a ++ concat answers) (sym none) ∙ rest.2,
          )
      by again (Some handle) is e =
          let (same, lines) =
          same_step (record old { rows = min (old.rows + 1) (2 ^ 64 - 1) }) next (place_lines handle old.sites)
          answer e in
          let form_is : old.form ≡ next.form = ap (λ (s : PlacesState). s.form) same in
          let sites_are : old.sites ≡ next.sites = ap (λ (s : PlacesState). s.sites) same in
          let rest = rw (← sites_are) at (again next (sym form_is ∙ has) more) in (
            handle ∷ rest.0,
            inr (handle, rest.0, row_gives handles old.rows form row handle is, rest.1, refl),
            ap (λ a. a ++ concat answers) (sym lines) ∙ ap (λ a. place_lines handle old.sites ++ a) rest.2,
          )

-- ---- the log

-- the header and the handles behind it were answered
abbrev AnswersLog : List Site → List (List ℕ) → List (List ℕ) → Type 0
AnswersLog sites rows answers =
    (handles : List (List ℕ)) × HandlesIn rows handles × (concat answers ≡ header_line ++ lines_at sites handles)

module _ (handles : ReadingsAreHandles) where
  -- a log is answered from its header to its end
  whole : (rows answers : List (List ℕ)) (old last : PlacesState) → old.form ≡ None → is_some last.form ≡ true
      → AreTaken TakesHandle old rows last answers
      → AnswersLog old.sites rows answers
  whole [] [] old last none has taken =
      let form : last.form ≡ None = ap (λ (s : PlacesState). s.form) taken ∙ none in absurd (cc (ap is_some form, has))
  whole [] (answer ∷ answers) old last none has taken = absurd taken
  whole (row ∷ rows) [] old last none has taken = absurd taken
  whole (row ∷ rows) (answer ∷ answers) old last none has (next, takes, more) =
      let read : (header_in row >>= headed old) ≡ Ok (next, answer) =
      subst (λ (o : Option HandleForm). step_by old o row ≡ Ok (next, answer)) none takes in
      let found = first_step (header_in row) (headed old) (next, answer) read in
      by (λ other empty. whole rows answers other last empty has) found.0 found.1 found.2
    where
      by : ((other : PlacesState) → other.form ≡ None → AreTaken TakesHandle other rows last answers
          → AnswersLog other.sites rows answers)
          → (found : Option HandleForm) → header_in row ≡ Ok found → headed old found ≡ Ok (next, answer)
          → AnswersLog old.sites (row ∷ rows) (answer ∷ answers)
      by again None is e =
          let (same, nothing) = same_step old next [] answer e in
          let rest = again old none (rw (← same) at more) in (
            rest.0,
            inl (header_none (row_of (strip_bom row)) is, rest.1),
            ap (λ a. a ++ concat answers) (sym nothing) ∙ rest.2,
          )
      by again (Some form) is e =
          let (same, line) = same_step (record old { form = Some form }) next header_line answer e in
          let form_is : Some form ≡ next.form = ap (λ (s : PlacesState). s.form) same in
          let sites_are : old.sites ≡ next.sites = ap (λ (s : PlacesState). s.sites) same in
          let rest = rw (← sites_are) at (body handles form rows answers next last (sym form_is) more) in (
            rest.0,
            inr (form, header_some (row_of (strip_bom row)) form is, rest.1),
            ap (λ a. a ++ concat answers) (sym line) ∙ ap (λ a. header_line ++ a) rest.2,
          )

  -- each handle of a log is answered by its places
  pub places_are_printed : PlacesArePrinted
  places_are_printed sites events (last, (took, later, sent, ended), has) =
      let all = whole took.rows took.answers (at_start sites) last refl has took.taken in
      let rows : rows_in events ≡ took.rows = took.came ∙ ap (λ l. took.rows ++ l) later ∙ append-nil took.rows in
      (all.0, subst (λ r. HandlesIn r all.0) (sym rows) all.1, sent ∙ all.2)
