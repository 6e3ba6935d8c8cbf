-- What servers cost beside arcs, and where the cells of a class stand, by the lists that a front keeps for it.
use Rattle.std.proofs.Common.{◌≡◌, ◌≤◌, ◌<◌, ◌∙◌, ℕ, List, [], ◌∷◌, length, position, All, None, Option}
use Rattle.std.proofs.Common.{Some, ap, ap₂, arith, filter, refl, subst, sym, Bool}
use Rattle.std.specs.Str.{bytes_eq}
use Rattle.std.specs.List.{AllByRecursion}
use Rattle.std.proofs.lemmas.Bool.{and_parts}
use Rattle.std.proofs.lemmas.List.{length-map}
use Rattle.std.proofs.lemmas.Slice.Eq.{bytes_eq-Decides}
use Rattle.std.proofs.lemmas.List.Elements.{All-from_recursion}
use Rattle.std.proofs.lemmas.List.Quantifiers.{position-Some}
use Rattle.hsp_tables.specs.Costs.{CostEntry}
use Rattle.hsp_instance.specs.Building.{arcs_from, or_else}
use Rattle.hsp_instance.specs.Instance.{Row, Site}
use Rattle.hsp_instance.specs.RowArcs.{AreArcsOf, ArcsInTurn, IsWithin, row_named}
use Rattle.hsp_instance.specs.declared.arc.Arc.{Arc}
use Rattle.hsp_instance.proofs.ArcsWithin.{arcs_within}
use Rattle.hsp_prices.specs.Rows.{Service}
use Rattle.hsp_price_text.specs.Claim.{Best}
use Rattle.hsp_prices.specs.Least.{arcs_of, is_least, least_arcs, least_of, pay_over, servers_of}
use Rattle.hsp_prices.proofs.Lists.{all_kept}
use Rattle.hsp_log.specs.Entries.{Entry}
use Rattle.hsp_price_check.specs.ClassNumbers.{HasClasses, is_named}
use Rattle.hsp_price_check.specs.Extras.{pay_by}
use Rattle.hsp_price_check.specs.Passed.{class_at, no_class}
use Rattle.hsp_price_check.proofs.PricePays.{pay_is}
use Rattle.hsp_price_dispatch.specs.Choosing.{Least, LeadsWithin, answer_of, assigned, assigned_over, choice_among}
use Rattle.hsp_price_dispatch.specs.Choosing.{choice_for, choice_over, class_number, elsewhere, least_for, or_full}
use Rattle.hsp_price_dispatch.specs.Choosing.{row_of}
use Rattle.hsp_price_dispatch.specs.Holding.{Held}
use Rattle.hsp_price_dispatch.specs.Standing.{ClassIsThere, IsIndexOf, IsOfService}
use Rattle.hsp_price_dispatch.specs.Taking.{CanTake}
use Rattle.hsp_price_dispatch.specs.declared.answer.Choice.{Choice}
use Rattle.hsp_price_dispatch.specs.declared.answer.Choice.TheVariants.{OfClass, Free, Diverted, Full, Unknown}
use Rattle.hsp_price_dispatch.specs.declared.choosing.Index.{Index}
use Rattle.hsp_price_dispatch.proofs.Chosen.{IsGood, is_good}

-- ---- the class of a row

-- fewer than two arcs have none
pub few_none : (plan : Best) (region : List ℕ) (least : List Arc) → length least < 2
    → class_number plan region least ≡ None
few_none plan region [] few = refl
few_none plan region (arc ∷ []) few = refl
few_none plan region (arc ∷ other ∷ more) few = absurd (omega arith)

-- more have the first class of their servers
pub several_have : (plan : Best) (region : List ℕ) (least : List Arc) → 2 ≤ length least
    → class_number plan region least ≡ position (is_named region (servers_of least)) plan.classes
several_have plan region [] many = absurd (omega arith)
several_have plan region (arc ∷ []) many = absurd (omega arith)
several_have plan region (arc ∷ other ∷ more) many = refl

-- which has as many servers
class_found : (plan : Best) (region : List ℕ) (least : List Arc) (k : ℕ)
    → position (is_named region (servers_of least)) plan.classes ≡ Some k
    → (k < length plan.classes) × (length (class_at plan k).servers ≡ length least)
class_found plan region least k found =
    let at = position-Some (is_named region (servers_of least)) plan.classes k no_class found in
    let own =
    and_parts (bytes_eq (class_at plan k).region region) (bytes_eq (class_at plan k).servers (servers_of least))
    at.1 in
    let same : (class_at plan k).servers ≡ servers_of least =
    (bytes_eq-Decides (class_at plan k).servers (servers_of least)).0 own.1 in
    (at.0, ap (λ (list : List ℕ). length list) same ∙ length-map least (λ arc. arc.server))

-- whichever it is
is_there : (plan : Best) (region : List ℕ) (least : List Arc) (o : Option ℕ)
    → position (is_named region (servers_of least)) plan.classes ≡ o → ClassIsThere plan least o
is_there plan region least None found = tt
is_there plan region least (Some k) found = class_found plan region least k found

-- so the class of a row is there, if it has one
pub row_class_there : (plan : Best) (region : List ℕ) (least : List Arc)
    → ClassIsThere plan least (class_number plan region least)
row_class_there plan region [] = tt
row_class_there plan region (arc ∷ []) = tt
row_class_there plan region (arc ∷ other ∷ more) =
    is_there plan region (arc ∷ other ∷ more)
    (position (is_named region (servers_of (arc ∷ other ∷ more))) plan.classes) refl

module _ (own : Held) (index : Index) (is : IsIndexOf own index) where
  -- ---- least arcs

  -- arcs are least by these numbers where they are least by the prices
  pub least_is : (arcs : List Arc)
      → least_arcs (pay_by index.extras.items) arcs ≡ least_arcs (pay_over own.service own.plan) arcs
  least_is arcs =
      ap (λ pay. least_arcs pay arcs) (pay_is own.service own.plan index.extras.items is.extras is.prices)

  -- arcs to servers that are there lead to servers with a number
  pub within_extras : (arcs : List Arc) → AllByRecursion (IsWithin (length own.service.servers)) arcs
      → AllByRecursion (IsWithin (length index.extras.items)) arcs
  within_extras arcs within =
      let same : length own.service.servers ≡ length index.extras.items = omega (arith, is.prices, is.extras.many) in
      subst (λ n. AllByRecursion (IsWithin n) arcs) same within

-- ---- one choice or the other

-- the first, where there is one
pub or_first : (by : Choice) (a b : Option Choice) → Some by ≡ a → Some by ≡ or_else a b
or_first by a b e = rw (← e) refl

-- and otherwise the second
pub or_second : (a b y : Option Choice) → None ≡ a → y ≡ b → y ≡ or_else a b
or_second a b y e f = rw (← e) f

-- the choice that is found, or Full
pub full_first : (by : Choice) (a b : Option Choice) → Some by ≡ a → by ≡ or_full (or_else a b)
full_first by a b e = rw (← e) refl

-- ---- the choice

-- of arcs that a test keeps what held before
pub kept_within : (n : ℕ) (test : Arc → Bool) (arcs : List Arc) → AllByRecursion (IsWithin n) arcs
    → AllByRecursion (IsWithin n) (filter test arcs)
kept_within n test arcs within = all_kept (IsWithin n) test arcs within

-- where there is an arc
pub choice_some : (own : Held) (region : List ℕ) (arcs least : List Arc) → 0 < length arcs
    → choice_among own region arcs least ≡ or_full (or_else (assigned own region least) (elsewhere own arcs))
choice_some own region [] least some = absurd (omega arith)
choice_some own region (arc ∷ arcs) least some = refl

-- the server is there
abbrev IsThere : Held → Arc → Type 0
IsThere own arc = arc.server < length own.service.servers

-- there is room for a good choice
can_take : (own : Held) (choice : Choice) → IsGood own (IsThere own) (IsThere own) choice → CanTake own choice
can_take own (OfClass n arc) is = (record { inside = is.0; room = is.1 }, is.2, is.3)
can_take own (Free arc) is = record { inside = is.0; room = is.1 }
can_take own (Diverted arc) is = record { inside = is.0; room = is.1 }
can_take own Full is = tt
can_take own Unknown is = tt

-- so there is for what a query is answered by
pub can_take_choice : (own : Held) (region : List ℕ) (arcs : List Arc)
    → AllByRecursion (IsWithin (length own.service.servers)) arcs
    → CanTake own
    (choice_among own region arcs (least_arcs (pay_over own.service own.plan) arcs))
can_take_choice own region arcs within =
    let pay = pay_over own.service own.plan in
    let there : (list : List Arc) → AllByRecursion (IsWithin (length own.service.servers)) list
    → All (IsThere own) list =
    λ list all k d l. (All-from_recursion (IsWithin (length own.service.servers)) list all k d l).server in
    can_take own (choice_among own region arcs (least_arcs pay arcs))
    (is_good own (IsThere own) (IsThere own) region arcs (least_arcs pay arcs) (there arcs within)
    (there (least_arcs pay arcs) (all_kept (IsWithin (length own.service.servers)) (is_least pay arcs) arcs within)))

-- the arcs of a row lead to servers that are there
pub row_within : (at : Service) (arcs : ArcsInTurn) → IsOfService at arcs → (row : Row)
    → AllByRecursion (IsWithin (length at.servers)) (arcs_of at row)
row_within at arcs is row =
    arcs_within at.costs is.costs.keyed.each row (length at.servers) 0 0 at.sites is.service.sites.each
    (omega (arith, is.service.servers.count))

-- so there is room for what a query is answered by
pub can_take_answer : (own : Held) (arcs : ArcsInTurn) → IsOfService own.service arcs → (region handle : List ℕ)
    → CanTake own (choice_for own (record { region = region; handle = handle }))
can_take_answer own arcs is region handle =
    let row = row_named region handle 1 in
    can_take_choice own region (arcs_of own.service row) (row_within own.service arcs is row)

-- the least arcs of a query lead to servers that are there
pub least_for_within : (own : Held) (arcs : ArcsInTurn) → IsOfService own.service arcs → (region handle : List ℕ)
    → AllByRecursion (IsWithin (length own.service.servers)) (least_for own.service own.plan region handle).arcs
least_for_within own arcs is region handle =
    let row = row_named region handle 1 in
    kept_within (length own.service.servers) (is_least (pay_over own.service own.plan) (arcs_of own.service row))
    (arcs_of own.service row) (row_within own.service arcs is row)

-- arcs that are found for a query are its own
pub found_arcs : (at : Service) (own : ArcsInTurn) → IsOfService at own → (region handle : List ℕ) (arcs : List Arc)
    → AreArcsOf own.costs own.sites region handle arcs → arcs ≡ arcs_of at (row_named region handle 1)
found_arcs at own is region handle arcs found =
    let row = row_named region handle 1 in
    found 1 ∙ ap (λ (costs : List CostEntry). arcs_from costs row 0 0 own.sites) is.costs_are
    ∙ ap (λ (sites : List Site). arcs_from at.costs row 0 0 sites) is.sites_are

-- what is found over least arcs is what the query is answered by
among_least : (own : Held) (region : List ℕ) (arcs : List Arc) (by : Choice)
    → Some by ≡ assigned own region (least_arcs (pay_over own.service own.plan) arcs)
    → by ≡ choice_among own region arcs (least_arcs (pay_over own.service own.plan) arcs)
among_least own region [] by e = absurd (cc (e))
among_least own region (arc ∷ arcs) by e =
    full_first by (assigned own region (least_arcs (pay_over own.service own.plan) (arc ∷ arcs)))
    (elsewhere own (arc ∷ arcs)) e

-- a query with no arc is answered by Unknown
pub no_arcs_unknown : (own : Held) (entry : Entry) → arcs_of own.service (row_of entry) ≡ []
    → choice_for own entry ≡ Unknown
no_arcs_unknown own entry none =
    ap (λ (list : List Arc). choice_among own entry.region list (least_of own.service own.plan (row_of entry))) none

-- ---- least arcs that were seen

module _ (own : Held) (region handle : List ℕ) (least : Least)
    (seen : least ≡ least_for own.service own.plan region handle)
  where
    -- what is found over them is what the query is answered by
    pub seen_answers : (by : Choice) → Some by ≡ assigned_over own least
        → by ≡ choice_for own (record { region = region; handle = handle })
    seen_answers by e =
        among_least own region (arcs_of own.service (row_named region handle 1)) by (e ∙ ap (assigned_over own) seen)

    -- their class is there
    pub seen_class : ClassIsThere own.plan least.arcs least.class
    seen_class =
        subst (λ (l : Least). ClassIsThere own.plan l.arcs l.class) (sym seen)
        (row_class_there own.plan region (least_of own.service own.plan (row_named region handle 1)))

    -- they lead to servers that are there
    pub seen_within : (arcs : ArcsInTurn) → IsOfService own.service arcs
        → AllByRecursion (IsWithin (length own.service.servers)) least.arcs
    seen_within arcs is =
        subst (λ (l : Least). AllByRecursion (IsWithin (length own.service.servers)) l.arcs) (sym seen)
        (least_for_within own arcs is region handle)

-- ---- least arcs that were found

module _ (own : Held) (index : Index) (is : IsIndexOf own index) (region handle : List ℕ) (arcs least : List Arc)
    (class : Option ℕ) (arcs_are : arcs ≡ arcs_of own.service (row_named region handle 1))
    (filled : least ≡ least_arcs (pay_by index.extras.items) arcs)
    (named : (plan : Best) → HasClasses plan.classes index.classes.entries → class ≡ class_number plan region least)
  where
    -- they are the query's own
    least_is_own : least ≡ least_of own.service own.plan (row_named region handle 1)
    least_is_own =
        filled ∙ least_is own index is arcs ∙ ap (λ list. least_arcs (pay_over own.service own.plan) list) arcs_are

    -- with its class
    pub found_least : record { arcs = least; class = class } ≡ least_for own.service own.plan region handle
    found_least =
        ap₂ (λ (list : List Arc) (o : Option ℕ). record { arcs = list; class = o }) least_is_own
        (named own.plan is.classes ∙ ap (class_number own.plan region) least_is_own)

    -- what is chosen by them is what the query is answered by
    pub found_answers : (by : Choice) → by ≡ choice_over own (record { arcs = least; class = class }) arcs
        → by ≡ choice_for own (record { region = region; handle = handle })
    found_answers by chosen = chosen ∙ ap₂ (choice_over own) found_least arcs_are

-- what can be taken leads to a server that is there
pub answer_within : (own : Held) (choice : Choice) → CanTake own choice
    → LeadsWithin (length own.service.servers) (answer_of choice)
answer_within own (OfClass n arc) is = is.0.inside
answer_within own (Free arc) is = is.inside
answer_within own (Diverted arc) is = is.inside
answer_within own Full is = tt
answer_within own Unknown is = tt
