-- Over which arc a query is diverted.
use Rattle.std.proofs.Common.{◌≡◌, ◌∙◌, Bool, true, false, List, [], ◌∷◌, All, None, Some}
use Rattle.std.proofs.Common.{filter, get_or, inl, inr, leb-true, nat_le, refl, subst, sym}
use Rattle.std.specs.List.{AllByRecursion, Contains}
use Rattle.std.proofs.lemmas.Bool.{cases_Bool, true≢false}
use Rattle.std.proofs.lemmas.List.Elements.{All-contains, All-contains_itself, All-filter, All-from_recursion}
use Rattle.std.proofs.lemmas.List.Elements.{filter_passes, recursion_from_All}
use Rattle.std.proofs.lemmas.List.Sums.{AllPass-from_list_all}
use Rattle.hsp_instance.specs.declared.arc.Arc.{Arc}
use Rattle.hsp_prices.specs.Least.{arcs_of, is_least, least_arcs, least_of, pay_over}
use Rattle.hsp_price_dispatch.specs.Choosing.{by_class, by_room, can_give, choice_for, class_number}
use Rattle.hsp_price_dispatch.specs.Choosing.{diverted, fullest, places_of, row_of}
use Rattle.hsp_price_dispatch.specs.Holding.{Held, has_room, is_free}
use Rattle.hsp_price_dispatch.specs.Laws.{IsDivertedLeast, NoLeastGives, PaysLeastOf}
use Rattle.hsp_price_dispatch.specs.declared.answer.Choice.TheVariants as choice
use Rattle.hsp_price_dispatch.specs.declared.choosing.Place.{Place}
use Rattle.hsp_price_dispatch.proofs.Arcs.{all_fail, first_none, no_least}
use Rattle.hsp_price_dispatch.proofs.Choices.{class_absent, diverts_elsewhere, first_absent, first_among, is_diverted}
use Rattle.hsp_price_dispatch.proofs.Choices.{one_of_two, second_absent}
use Rattle.hsp_price_dispatch.proofs.Greatest.{none_can}

-- ---- arcs that a test keeps

-- one of them is one of the arcs, and passes
of_filter : (test : Arc → Bool) (arcs : List Arc) (arc : Arc) → Contains (filter test arcs) arc
    → Contains arcs arc × (test arc ≡ true)
of_filter test arcs arc there = (
  All-contains (Contains arcs) (filter test arcs) arc
      (All-filter test (Contains arcs) arcs (All-contains_itself arcs)) there,
  All-contains (λ own. test own ≡ true) (filter test arcs) arc (filter_passes test arcs) there,
)

-- what holds of them holds of each arc that passes
where_kept : (P : Arc → Type 0) (test : Arc → Bool) (arcs : List Arc) → AllByRecursion P (filter test arcs)
    → AllByRecursion (λ arc. test arc ≡ true → P arc) arcs
where_kept P test [] all = tt
where_kept P test (arc ∷ arcs) all = elim (cases_Bool (test arc)) [
  | inl passes ↦ let own = rw passes at all in ((λ can. own.0), where_kept P test arcs own.1)
  | inr fails ↦ ((λ can. absurd (true≢false (sym can ∙ fails))), where_kept P test arcs (rw fails at all))
]

module _ (own : Held) where
  -- ---- least arcs

  -- the first arc of least pay of those that pass pays least of them
  pays_least : (test : Arc → Bool) (arcs : List Arc) (arc : Arc)
      → diverted own test arcs ≡ Some (choice.Diverted arc) → PaysLeastOf own test arcs arc
  pays_least test arcs arc e =
      let pay = pay_over own.service own.plan in
      let kept = filter test arcs in
      let first = first_among choice.Diverted (least_arcs pay kept) (choice.Diverted arc) e in
      let same : first.0 ≡ arc = cc (first.1) in
      let least = of_filter (is_least pay kept) kept arc (subst (Contains (least_arcs pay kept)) same first.2) in
      let passes = of_filter test arcs arc least.0 in
      let low : All (λ other. nat_le (pay arc) (pay other) ≡ true) kept =
      AllPass-from_list_all (λ other. nat_le (pay arc) (pay other)) kept least.1 in
      record {
        among = passes.0;
        passes = passes.1;
        least =
            λ k d l can. leb-true (pay arc) (pay (get_or arcs k d))
            (All-from_recursion (λ other. test other ≡ true → nat_le (pay arc) (pay other) ≡ true) arcs
            (where_kept (λ other. nat_le (pay arc) (pay other) ≡ true) test arcs
            (recursion_from_All (λ other. nat_le (pay arc) (pay other) ≡ true) kept low)) k d l can);
      }

  -- ---- nothing at least servers

  -- where no place is found none can give
  none_give : (places : List Place) → fullest own places ≡ None
      → AllByRecursion (λ place. can_give own place ≡ false) places
  none_give [] none = tt
  none_give (place ∷ places) none =
      let parts = none_can own (can_give own place) place (fullest own places) refl none in
      (parts.0, none_give places parts.1)

-- so a query is diverted over an arc that pays least of those that are left
pub diverted_least : IsDivertedLeast
diverted_least own entry arc e =
    let at = own.service in
    let arcs = arcs_of at (row_of entry) in
    let least = least_of at own.plan (row_of entry) in
    let class = class_number own.plan entry.region least in
    let both = diverts_elsewhere own entry.region arcs least arc (is_diverted (choice_for own entry) arc e) in
    let no_class = first_absent (by_class own least class) (by_room own least) both.0 in
    let no_room = second_absent (by_class own least class) (by_room own least) both.0 in
    let none : NoLeastGives own entry least = record {
      amounts = λ k is.
          All-from_recursion (λ place. can_give own place ≡ false) (places_of own k least)
          (none_give own (places_of own k least) (class_absent own least class no_class k is));
      rooms =
          all_fail (is_free own) least (first_none choice.Free (filter (is_free own) least) no_room);
    } in
    let pay = pay_over at own.plan in (
      none,
      elim (one_of_two (diverted own (is_free own) arcs) (diverted own (has_room own) arcs) (choice.Diverted arc)
          both.1) [
            | inl free ↦ inl (pays_least own (is_free own) arcs arc free)
            | inr roomy ↦
                let nothing : filter (is_free own) arcs ≡ [] =
                no_least pay (filter (is_free own) arcs)
                (first_none choice.Diverted (least_arcs pay (filter (is_free own) arcs)) roomy.0) in
                inr (all_fail (is_free own) arcs nothing, pays_least own (has_room own) arcs arc roomy.1)
          ],
    )
