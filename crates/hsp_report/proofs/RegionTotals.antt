-- The regions of rows, each once, have each row between them once.
use Rattle.std.proofs.Common.{◌≡◌, ◌∙◌, ◌+◌, ◌*◌, ◌<◌, ◌++◌, ◌||◌, ℕ, zero, suc, Bool, true, false, List, [], ◌∷◌, All}
use Rattle.std.proofs.Common.{length, map, sum_by, slice_index_or, if◌then◌else◌, ap, arith, refl, sym, subst}
use Rattle.std.specs.List.{fold, list_any}
use Rattle.std.specs.Str.{bytes_eq}
use Rattle.std.proofs.lemmas.List.{get_or-map, length-map}
use Rattle.std.proofs.lemmas.List.Elements.{All-head, All-tail}
use Rattle.std.proofs.lemmas.List.Folds.{list_any-append}
use Rattle.std.proofs.lemmas.List.Sums.{sum_by-cons, sum_by_push}
use Rattle.std.proofs.lemmas.Slice.Eq.{bytes_eq-Decides}
use Rattle.indexmap.specs.IndexSet.{insert_key}
use Rattle.hsp_instance.specs.Instance.{Row, regions_of}
use Rattle.hsp_check.proofs.InstanceNetwork.{is_network}
use Rattle.hsp_check.specs.Instance.{network_of}
use Rattle.hsp_check.specs.Plan.{planned}
use Rattle.hsp_check.specs.declared.arc.NetworkArc.{NetworkArc}
use Rattle.hsp_report.specs.Numbered.{no_row, row_at}
use Rattle.hsp_report.specs.RegionTotals.{CostsAddUp, DemandsAddUp}
use Rattle.hsp_transport.proofs.Rowwise.{same_by, sum_by_none}
use Rattle.hsp_transport.proofs.Summing.{sum_by_add}

-- ---- equal texts

-- two tests of the same texts come to the same
same_twice : (a b : List ℕ) (t u : Bool) → bytes_eq a b ≡ t → bytes_eq b a ≡ u → t ≡ u
same_twice a b true true e f = refl
same_twice a b false false e f = refl
same_twice a b true false e f = let is : a ≡ b = (bytes_eq-Decides a b).0 e in cc ((bytes_eq-Decides b a).1 (sym is), f)
same_twice a b false true e f = let is : b ≡ a = (bytes_eq-Decides b a).0 f in cc ((bytes_eq-Decides a b).1 (sym is), e)

-- texts are compared either way round
either_way : (a b : List ℕ) → bytes_eq a b ≡ bytes_eq b a
either_way a b = same_twice a b (bytes_eq a b) (bytes_eq b a) refl refl

-- ---- names, each once

-- whether a name is one of names
abbrev pub among : List ℕ → List (List ℕ) → Bool
among name names = list_any (λ g. bytes_eq g name) names

-- a name is among others where one equals it
among_is : (name : List ℕ) (names : List (List ℕ)) → among name names ≡ list_any (bytes_eq name) names
among_is name [] = refl
among_is name (g ∷ names) = rw (either_way g name, among_is name names) refl

-- what is told of the name among names is told once, or not at all
abbrev pub Once : List (List ℕ) → Type 0
Once names =
    (name : List ℕ) (w : ℕ) → sum_by (λ g. if bytes_eq g name then w else 0) names ≡ (if among name names then w else 0)

-- a name put behind others that do not have it
once_if : (new name : List ℕ) (names : List (List ℕ)) (w : ℕ) (is there : Bool) → bytes_eq new name ≡ is
    → among name names ≡ there → among new names ≡ false
    → (if there then w else 0) + (if is then w else 0) ≡ (if there || is then w else 0)
once_if new name names w true true e f none =
    let same : new ≡ name = (bytes_eq-Decides new name).0 e in cc (same, none, f)
once_if new name names w true false e f none = omega arith
once_if new name names w false true e f none = omega arith
once_if new name names w false false e f none = refl

-- a test behind which none follows
or_false : (a b : Bool) → (a || (b || false)) ≡ (a || b)
or_false true b = refl
or_false false true = refl
or_false false false = refl

-- a name is among others and one more
behind : (name new : List ℕ) (names : List (List ℕ))
    → among name (names ++ new ∷ []) ≡ (among name names || bytes_eq new name)
behind name new names =
    list_any-append (λ g. bytes_eq g name) names (new ∷ []) ∙ or_false (among name names) (bytes_eq new name)

-- names that are each there once, and a new one
once_behind : (new : List ℕ) (names : List (List ℕ)) → among new names ≡ false → Once names → Once (names ++ new ∷ [])
once_behind new names none once name w =
    sum_by_push (λ g. if bytes_eq g name then w else 0) names new
    ∙ ap (λ n. n + (if bytes_eq new name then w else 0)) (once name w)
    ∙ once_if new name names w (bytes_eq new name) (among name names) refl refl none
    ∙ ap (λ (t : Bool). if t then w else 0) (sym (behind name new names))

-- names that are each there once stay so, whether one is new or not
once_more : (t : Bool) (new : List ℕ) (names : List (List ℕ)) → among new names ≡ t → Once names
    → Once (if t then names else names ++ new ∷ [])
once_more true new names e once = once
once_more false new names e once = once_behind new names e once

-- the new name is among them, and those that were are
there_if : (t : Bool) (new : List ℕ) (names : List (List ℕ)) → among new names ≡ t
    → among new (if t then names else names ++ new ∷ []) ≡ true
there_if true new names e = e
there_if false new names e = rw (behind new new names, e) ((bytes_eq-Decides new new).1 refl)

-- a name that is there stays there
kept_if : (t : Bool) (new name : List ℕ) (names : List (List ℕ)) → among name names ≡ true
    → among name (if t then names else names ++ new ∷ []) ≡ true
kept_if true new name names e = e
kept_if false new name names e = rw (behind name new names, e) refl

-- a name is put behind the others if it is new
insert_is : (new : List ℕ) (names : List (List ℕ))
    → insert_key bytes_eq names new ≡ (if among new names then names else names ++ new ∷ [])
insert_is new names = ap (λ (t : Bool). if t then names else names ++ new ∷ []) (sym (among_is new names))

-- of names that are seen in turn each stands once
seen_once : (keys names : List (List ℕ)) → Once names → Once (fold (insert_key bytes_eq) names keys)
seen_once [] names once = once
seen_once (k ∷ keys) names once =
    seen_once keys (insert_key bytes_eq names k) (rw (insert_is k names) (once_more (among k names) k names refl once))

-- a name that was seen stays
seen_stays : (name : List ℕ) (keys names : List (List ℕ)) → among name names ≡ true
    → among name (fold (insert_key bytes_eq) names keys) ≡ true
seen_stays name [] names there = there
seen_stays name (k ∷ keys) names there =
    seen_stays name keys (insert_key bytes_eq names k)
    (rw (insert_is k names) (kept_if (among k names) k name names there))

-- each name in turn is seen
seen_there : (keys names : List (List ℕ)) (i : ℕ) (d : List ℕ) → i < length keys
    → among (slice_index_or keys i d) (fold (insert_key bytes_eq) names keys) ≡ true
seen_there [] names i d l = absurd (omega arith)
seen_there (k ∷ keys) names zero d l =
    seen_stays k keys (insert_key bytes_eq names k) (rw (insert_is k names) (there_if (among k names) k names refl))
seen_there (k ∷ keys) names (suc i) d l = seen_there keys (insert_key bytes_eq names k) i d (omega (arith, l))

-- each region of rows stands once
pub regions_once : (rows : List Row) → Once (regions_of rows)
regions_once rows = seen_once (map (λ (row : Row). row.region) rows) [] (λ name w. refl)

-- ---- sums over regions and rows

-- what things weigh is what those of each name weigh, over names each of which stands once
pub between : {A : Type 0} (names : List (List ℕ)) (name_of : A → List ℕ) (weight : A → ℕ) (xs : List A) → Once names
    → All (λ x. among (name_of x) names ≡ true) xs
    → sum_by (λ g. sum_by (λ x. if bytes_eq g (name_of x) then weight x else 0) xs) names ≡ sum_by weight xs
between names name_of weight [] once there = sum_by_none names
between {A} names name_of weight (x ∷ xs) once there =
    let first : among (name_of x) names ≡ true = All-head (λ (a : A). among (name_of a) names ≡ true) x xs there in
    let own : sum_by (λ g. if bytes_eq g (name_of x) then weight x else 0) names ≡ weight x =
    rw first at (once (name_of x) (weight x)) in
    same_by (λ g. sum_by (λ a. if bytes_eq g (name_of a) then weight a else 0) (x ∷ xs))
    (λ g.
    (if bytes_eq g (name_of x) then weight x else 0) + sum_by (λ a. if bytes_eq g (name_of a) then weight a else 0)
    xs) names
    (λ g. sum_by-cons (λ a. if bytes_eq g (name_of a) then weight a else 0) x xs)
    ∙ sum_by_add (λ g. if bytes_eq g (name_of x) then weight x else 0)
    (λ g. sum_by (λ a. if bytes_eq g (name_of a) then weight a else 0) xs) names
    ∙ ap (λ n. n + sum_by (λ g. sum_by (λ a. if bytes_eq g (name_of a) then weight a else 0) xs) names) own
    ∙ ap (λ n. weight x + n)
    (between names name_of weight xs once (All-tail (λ (a : A). among (name_of a) names ≡ true) x xs there))
    ∙ sym (sum_by-cons weight x xs)

-- the region of each row is among the regions
pub row_there : (rows : List Row) (i : ℕ) (d : Row) → i < length rows
    → among (slice_index_or rows i d).region (regions_of rows) ≡ true
row_there rows i d l =
    let keys = map (λ (row : Row). row.region) rows in
    let name : slice_index_or keys i [] ≡ (slice_index_or rows i d).region =
    get_or-map (λ (row : Row). row.region) rows i d [] l in
    let there : among (slice_index_or keys i []) (regions_of rows) ≡ true =
    seen_there keys [] i [] (rw (length-map rows (λ (row : Row). row.region)) l) in
    subst (λ g. among g (regions_of rows) ≡ true) name there

-- the demands of all regions add up to that of all rows
pub demands_add_up : DemandsAddUp
demands_add_up it =
    between (regions_of it.rows) (λ (row : Row). row.region) (λ row. row.count) it.rows (regions_once it.rows)
    (λ i d l. row_there it.rows i d l)

-- the costs of all regions add up to that of the plan
pub costs_add_up : CostsAddUp
costs_add_up it is x =
    between (regions_of it.rows) (λ (a : NetworkArc). (row_at it a.row).region) (λ a. a.cost * planned x a)
    (network_of it).arcs (regions_once it.rows)
    (λ i d l.
    row_there it.rows (slice_index_or (network_of it).arcs i d).row no_row
    (rw (length-map it.rows (λ (r : Row). r.count)) at ((is_network it is).sources i d l)))
