-- The classes that a row is of: at most one of a certificate, and none where it has less than two least servers.
use Rattle.std.proofs.Common.{◌≡◌, ◌<◌, ◌∙◌, false, true, List, [], ◌∷◌, length, refl, ap, sym, arith}
use Rattle.std.specs.List.{AllByRecursion, list_any}
use Rattle.std.proofs.lemmas.Bool.{false_from_ne_true, or_from}
use Rattle.hsp_instance.specs.Instance.{Row}
use Rattle.hsp_prices.specs.Rows.{Service}
use Rattle.hsp_price_text.specs.Claim.{Best, Class, is_best}
use Rattle.hsp_prices.specs.Least.{is_of}
use Rattle.hsp_prices.proofs.ClassKinds.{least_servers, of_class}
use Rattle.hsp_prices.proofs.GivenClasses.{IsGiven, given_classes, one_class}
use Rattle.hsp_prices.proofs.Once.{AtMostOnce}

module _ (at : Service) (plan : Best) (t : Row) where
  -- a row with less than two least servers is of no class that is given
  none_given : length (least_servers at plan t) < 2 → (classes : List Class) → AllByRecursion IsGiven classes
      → list_any (λ c. is_of at plan c t) classes ≡ false
  none_given few [] given = refl
  none_given few (c ∷ classes) given =
      or_from (is_of at plan c t) (list_any (λ c. is_of at plan c t) classes)
      (false_from_ne_true (is_of at plan c t) (λ e.
      let same : length c.servers ≡ length (least_servers at plan t) = ap length (of_class at plan c t e).1 in
      let two = given.0.several in omega arith))
      (none_given few classes given.1)

  module _ (fits : is_best plan ≡ true) where
    -- so it is of none of the certificate
    pub no_class : length (least_servers at plan t) < 2 → list_any (λ c. is_of at plan c t) plan.classes ≡ false
    no_class few = none_given few plan.classes (given_classes plan fits)

    -- a row is of at most one class of the certificate
    pub one_of : AtMostOnce (λ c. is_of at plan c t) plan.classes
    one_of =
        one_class plan fits (λ c. is_of at plan c t)
        (λ c d e f.
        let p = of_class at plan c t e in
        let q = of_class at plan d t f in
        (p.0 ∙ sym q.0, p.1 ∙ sym q.1))
