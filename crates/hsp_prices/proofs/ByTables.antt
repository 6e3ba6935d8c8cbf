-- Rows and the table of their kinds, where rows of one kind have the same arcs.
use Rattle.std.proofs.Common.{◌≡◌, ℕ, ◌+◌, ◌<◌, ◌≤◌, ◌==◌, inl, inr, true, List, [], length, map, sum_by}
use Rattle.std.proofs.Common.{slice_index, slice_index_or, refl, ap, sym, ◌∙◌, subst, arith}
use Rattle.std.proofs.lemmas.List.{length-map, get_or-map}
use Rattle.hsp_instance.specs.Instance.{Row}
use Rattle.hsp_instance.specs.declared.arc.Arc.{Arc}
use Rattle.hsp_check.proofs.RowLinks.{link, links_of_row}
use Rattle.hsp_transport.specs.Kinds.{links_to}
use Rattle.hsp_transport.specs.Sums.{sum_below}
use Rattle.hsp_transport.proofs.Summing.{by_place, sum_below_same}
use Rattle.hsp_transport.proofs.Rowwise.{when}
use Rattle.hsp_prices.specs.Kinds.{AreKinds, HasOneArcASite, links_of}
use Rattle.hsp_prices.specs.Rows.{Service, network_by}
use Rattle.hsp_prices.proofs.Counting.{IsKinding, Kinding, table_of}
use Rattle.hsp_prices.proofs.Placing.{place_in, place_within, placed_same, all_more, all_there, all_seen}

abbrev pub no_row : Row
no_row = record { region = []; handle = []; count = 0 }

abbrev pub row_at : List Row → ℕ → Row
row_at rows i = slice_index_or rows i no_row

abbrev count : Row → ℕ
count row = row.count

module _ (at : Service) (arcs : Row → List Arc) (list : List Row) where
  -- the links of a row are its arcs
  pub links_are : (i : ℕ) → i < length list → links_of (network_by at arcs list) i ≡ map link (arcs (row_at list i))
  links_are i l =
      links_of_row (network_by at arcs list) (map arcs list) i
      ∙ ap (λ arcs. map link arcs) (get_or-map arcs list i no_row [] l)

  -- a demand is that of a row
  pub in_rows : (i : ℕ) → i < length (map count list) → i < length list
  in_rows i l = omega (arith, l, length-map list count)

  -- where no row has two arcs to a site, the network has at most one arc from a row to a site
  pub one_arc : ((row : Row) (s : ℕ) → links_to (map link (arcs row)) s ≤ 1) → HasOneArcASite (network_by at arcs list)
  one_arc each i s l =
      subst (λ links. links_to links s ≤ 1) (sym (links_are i (in_rows i l))) (each (row_at list i) s)

module _ (by : Kinding Row) (is : IsKinding by)
    (adds : (a b : Row) → (by.with_count_of a b).count ≡ a.count + b.count) (rows : List Row) where
  -- the place of a row's kind in the table
  abbrev pub place_of : ℕ → ℕ
  place_of i = place_in by is count adds (table_of by rows) (row_at rows i)

  -- each row's kind is in the table
  pub place_there : (i : ℕ) → i < length rows → place_of i < length (table_of by rows)
  place_there i l =
      place_within by is count adds (table_of by rows) (row_at rows i) (all_there by is count adds rows [] i no_row l)

  -- and of the kind of the row
  pub place_same : (i : ℕ) → i < length rows → by.same (row_at (table_of by rows) (place_of i)) (row_at rows i) ≡ true
  place_same i l =
      placed_same by is count adds (table_of by rows) (row_at rows i) no_row
      (all_there by is count adds rows [] i no_row l)

module _ (at : Service) (by : Kinding Row) (is : IsKinding by)
    (adds : (a b : Row) → (by.with_count_of a b).count ≡ a.count + b.count) (rows : List Row) (arcs : Row → List Arc)
    (same : (a b : Row) → by.same a b ≡ true → arcs a ≡ arcs b) where
  abbrev table : List Row
  table = table_of by rows

  abbrev kind : ℕ → ℕ
  kind i = place_of by is adds rows i

  -- each row has the links of its kind
  alike : (i : ℕ) → i < length rows
      → links_of (network_by at arcs rows) i ≡ links_of (network_by at arcs table) (kind i)
  alike i l =
      links_are at arcs rows i l
      ∙ sym
      (ap (λ arcs. map link arcs) (same (row_at table (kind i)) (row_at rows i) (place_same by is adds rows i l)))
      ∙ sym (links_are at arcs table (kind i) (place_there by is adds rows i l))

  -- the table is one of kinds of the rows
  pub are_kinds : AreKinds (network_by at arcs rows) (network_by at arcs table) kind
  are_kinds = record {
    inside = λ i l. omega (arith, place_there by is adds rows i (in_rows at arcs rows i l), length-map table count);
    seen =
        λ k l. elim (all_seen by is count adds rows [] no_row k (in_rows at arcs table k l)) [
          | inl early ↦ absurd (omega (arith, early))
          | inr row ↦ (row.0, omega (arith, row.1, length-map rows count), row.2)
        ];
    arcs = λ i l. alike i (in_rows at arcs rows i l);
    demands = λ k l.
        let all = all_more by is count adds rows [] k in
        let place : Row → ℕ = λ row. place_in by is count adds table row in
        let each : sum_by (λ row. when (place row == k) (count row)) rows
        ≡ sum_below (length rows) (λ i. when (kind i == k) (count (row_at rows i))) =
        by_place (λ row. when (place row == k) (count row)) no_row rows in
        let listed : sum_below (length rows) (λ i. when (kind i == k) (count (row_at rows i)))
        ≡ sum_below (length rows) (λ i. when (kind i == k) (slice_index (map count rows) i)) =
        sum_below_same (length rows) _ _
        (λ i m. ap (λ v. when (kind i == k) v) (sym (get_or-map count rows i no_row 0 m))) in
        let many : sum_below (length rows) (λ i. when (kind i == k) (slice_index (map count rows) i))
        ≡ sum_below (length (map count rows)) (λ i. when (kind i == k) (slice_index (map count rows) i)) =
        ap (λ n. sum_below n (λ i. when (kind i == k) (slice_index (map count rows) i)))
        (sym (length-map rows count)) in
        omega (arith, all, each, listed, many);
    capacities = refl;
    limits = refl;
    host_of = λ j. refl;
  }
