-- Rows that were seen have the least arcs of their own rows.
use Rattle.std.proofs.Common.{◌≡◌, ◌∙◌, ◌++◌, ℕ, zero, suc, List, [], ◌∷◌, Option, Some, None}
use Rattle.std.proofs.Common.{ap, inl, inr, length, option_map, refl, sym}
use Rattle.std.specs.Prelude.{slice_get}
use Rattle.std.specs.List.{AllByRecursion, find}
use Rattle.std.proofs.lemmas.Bool.{cases_Bool}
use Rattle.hsp_text.proofs.Lists.{all_push}
use Rattle.hsp_prices.specs.Rows.{Service}
use Rattle.hsp_price_text.specs.Claim.{Best}
use Rattle.hsp_price_check.specs.Seen.{Seen, is_left_out, number_of, of_row}
use Rattle.hsp_price_check.proofs.SeenMaps.{found_has}
use Rattle.hsp_price_dispatch.specs.Choosing.{Least, least_for}
use Rattle.hsp_price_dispatch.specs.SeenLeast.{HasItsLeast, HaveTheirLeast, SeenLists, least_seen, list_at, with_least}

-- ---- a list more

-- the lists before it stay
stays_at : (lists : List Least) (more : Least) (n : ℕ) (least : Least) → slice_get lists n ≡ Some least
    → slice_get (lists ++ more ∷ []) n ≡ Some least
stays_at [] more n least e = let none : ◌≡◌ {A = Option Least} None (Some least) = e in absurd cc
stays_at (list ∷ lists) more zero least e = e
stays_at (list ∷ lists) more (suc n) least e = stays_at lists more n least e

-- it has the next number
last_at : (lists : List Least) (more : Least) → slice_get (lists ++ more ∷ []) (length lists) ≡ Some more
last_at [] more = refl
last_at (list ∷ lists) more = last_at lists more

-- what rows had they still have
all_stay : (at : Service) (plan : Best) (lists : List Least) (more : Least) (rows : List Seen)
    → AllByRecursion (HasItsLeast at plan lists) rows → AllByRecursion (HasItsLeast at plan (lists ++ more ∷ [])) rows
all_stay at plan lists more [] all = tt
all_stay at plan lists more (row ∷ rows) all = (
  stays_at lists more row.number (least_for at plan row.region row.handle) all.0,
  all_stay at plan lists more rows all.1,
)

-- ---- a row more

module _ (seen : SeenLists) (region handle : List ℕ) (least : Least) where
  abbrev pub next : Seen
  next = record { region = region; handle = handle; number = length seen.lists }

  -- each row has its least arcs where the new one has
  pub put_has : (at : Service) (plan : Best) → HaveTheirLeast at plan seen → least ≡ least_for at plan region handle
      → HaveTheirLeast at plan (with_least seen region handle least)
  put_has at plan all is = elim (cases_Bool (is_left_out seen.rows region handle)) [
    | inl out ↦ rw out all
    | inr taken ↦
        rw taken
        (all_push (HasItsLeast at plan (seen.lists ++ least ∷ [])) seen.rows next
        (all_stay at plan seen.lists least seen.rows all) (last_at seen.lists least ∙ ap Some is))
  ]

  -- ---- least arcs that are found

  -- by the number of a row
  of_number : (at : Service) (plan : Best) (o : Option ℕ) → HaveTheirLeast at plan seen
      → option_map number_of (find (of_row region handle) seen.rows) ≡ o → list_at seen.lists o ≡ Some least
      → least ≡ least_for at plan region handle
  of_number at plan None all e is = let none : ◌≡◌ {A = Option Least} None (Some least) = is in absurd cc
  of_number at plan (Some number) all e is =
      let own : slice_get seen.lists number ≡ Some (least_for at plan region handle) =
      found_has (HasItsLeast at plan seen.lists) region handle seen.rows number all e in
      let both : Some least ≡ Some (least_for at plan region handle) = sym is ∙ own in
      cc (both)

  -- those that are found are the row's own
  pub found_own : (at : Service) (plan : Best) → HaveTheirLeast at plan seen
      → least_seen seen region handle ≡ Some least → least ≡ least_for at plan region handle
  found_own at plan all is =
      of_number at plan (option_map number_of (find (of_row region handle) seen.rows)) all refl is
