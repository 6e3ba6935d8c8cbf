-- Rows of one class are of one kind: they have the same least arcs.
use Rattle.std.proofs.Common.{◌≡◌, ℕ, ◌&&◌, ◌∙◌, Bool, true, List, map, refl, ap, ap₂, sym}
use Rattle.std.specs.Prelude.{◌↔◌}
use Rattle.std.specs.List.{AllByRecursion}
use Rattle.std.specs.Str.{bytes_eq}
use Rattle.hsp_instance.specs.Instance.{IsAscending, Row}
use Rattle.hsp_instance.proofs.ArcLists.{arcs_ascending, by_region}
use Rattle.hsp_prices.specs.Rows.{Service, with_count_of}
use Rattle.hsp_prices.proofs.Counting.{IsKinding, Kinding}
use Rattle.hsp_prices.proofs.Tabling.{both_equal}
use Rattle.hsp_price_text.specs.Claim.{Best, Class}
use Rattle.hsp_prices.specs.Least.{arcs_of, is_least, is_of, least_arcs, least_of, pay_over, servers_of}
use Rattle.hsp_prices.specs.Shown.{IsService}
use Rattle.hsp_prices.proofs.Lists.{all_kept}
use Rattle.hsp_prices.proofs.ServerArcs.{IsOwn, arc_for, by_servers, own_arcs}
use Rattle.hsp_prices.proofs.Sites.{ascending_kept}

module _ (at : Service) (plan : Best) where
  -- the servers of a row's least arcs
  abbrev pub least_servers : Row → List ℕ
  least_servers row = servers_of (least_of at plan row)

  -- two rows are of one class: they are of one region and have the same least servers
  abbrev pub is_same_class : Row → Row → Bool
  is_same_class a b = bytes_eq a.region b.region && bytes_eq (least_servers a) (least_servers b)

  abbrev pub by_class : Kinding Row
  by_class = record { same = is_same_class; with_count_of = with_count_of }

  -- a row of a class has its region and its servers
  pub of_class : (class : Class) (row : Row) → is_of at plan class row ≡ true
      → (class.region ≡ row.region) × (class.servers ≡ least_servers row)
  of_class class row e = (both_equal class.region row.region class.servers (least_servers row)).0 e

  -- two rows of a class of the certificate are of one class
  pub same_of : (class : Class) (a b : Row) → is_of at plan class a ≡ true → is_of at plan class b ≡ true
      → is_same_class a b ≡ true
  same_of class a b e f =
      let p = of_class class a e in
      let q = of_class class b f in
      (both_equal a.region b.region (least_servers a) (least_servers b)).1 (sym p.0 ∙ q.0, sym p.1 ∙ q.1)

  -- two rows of one class are alike to each class of the certificate
  pub alike_to : (class : Class) (a b : Row) → is_same_class a b ≡ true
      → is_of at plan class a ≡ is_of at plan class b
  alike_to class a b e =
      let p = (both_equal a.region b.region (least_servers a) (least_servers b)).0 e in
      ap₂ (λ r s. bytes_eq class.region r && bytes_eq class.servers s) p.0 p.1

  -- a row with another's count has the same least arcs
  pub least_kept : (a b : Row) → least_of at plan (with_count_of a b) ≡ least_of at plan a
  least_kept a b =
      ap (least_arcs (pay_over at plan))
      (sym (by_region at.costs (with_count_of a b) 0 0 at.sites) ∙ by_region at.costs a 0 0 at.sites)

  -- so being of one class makes kinds
  pub classes_are_kinds : IsKinding by_class
  classes_are_kinds = record {
    reflexive = λ a. (both a a).1 (refl, refl);
    symmetric = λ a b e. let p = (both a b).0 e in (both b a).1 (sym p.0, sym p.1);
    transitive =
        λ a b c e f. let p = (both a b).0 e in let q = (both b c).0 f in (both a c).1 (p.0 ∙ q.0, p.1 ∙ q.1);
    kept = λ a b. (both a (with_count_of a b)).1 (refl, ap servers_of (sym (least_kept a b)));
  }
    where
      both : (a b : Row) → (is_same_class a b ≡ true) ↔ ((a.region ≡ b.region) × (least_servers a ≡ least_servers b))
      both a b = both_equal a.region b.region (least_servers a) (least_servers b)

  -- the least arcs of a row ascend
  pub least_ascend : (row : Row) → IsAscending (least_of at plan row)
  least_ascend row =
      ascending_kept (is_least (pay_over at plan) (arcs_of at row)) (arcs_of at row)
      (arcs_ascending at.costs row 0 0 at.sites)

  module _ (is : IsService at) where
    -- the least arcs of a row are those of its region to their servers
    pub own_least : (row : Row) → AllByRecursion (IsOwn at row.region) (least_of at plan row)
    own_least row =
        all_kept (IsOwn at row.region) (is_least (pay_over at plan) (arcs_of at row)) (arcs_of at row)
        (own_arcs at is row)

    -- rows of one class have the same least arcs
    pub same_least : (a b : Row) → is_same_class a b ≡ true → least_of at plan a ≡ least_of at plan b
    same_least a b e =
        let p = (both_equal a.region b.region (least_servers a) (least_servers b)).0 e in
        sym (by_servers at a.region (least_of at plan a) (own_least a))
        ∙ ap₂ (λ r s. map (arc_for at r) s) p.0 p.1
        ∙ by_servers at b.region (least_of at plan b) (own_least b)
