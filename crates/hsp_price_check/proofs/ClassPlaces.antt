-- The classes of a plan, found by their regions and servers, as one after another is added.
use Rattle.std.proofs.Common.{◌≡◌, ◌∙◌, ◌+◌, ◌<◌, ℕ, List, None, Some, ap, ap₂, cond, get_or, length}
use Rattle.std.proofs.Common.{sym, take, arith}
use Rattle.std.specs.Prelude.{◌&&◌, position}
use Rattle.std.specs.Str.{bytes_eq}
use Rattle.std.proofs.lemmas.Cmp.{nat_list_eq_equiv}
use Rattle.std.proofs.lemmas.List.{length-take, take_more}
use Rattle.hsp_instance.specs.Building.{or_else}
use Rattle.hsp_price_text.specs.Claim.{Class}
use Rattle.hsp_price_check.specs.FirstRows.{FirstRow, HasAdded}
use Rattle.hsp_price_check.proofs.FirstOfKinds.{place_next}
use Rattle.hsp_price_check.specs.ClassNumbers.{HasClasses, is_named}

-- a key is of a class exactly where the class is named by it
named_by_key : (region servers : List ℕ) (class : Class)
    → (bytes_eq region class.region && bytes_eq servers class.servers) ≡ is_named region servers class
named_by_key region servers class =
    ap₂ (λ a b. a && b) (nat_list_eq_equiv.symm region class.region) (nat_list_eq_equiv.symm servers class.servers)

-- the numbers of one class more
pub one_class : (classes : List Class) (n : ℕ) (d : Class) (old new : List FirstRow) → n < length classes
    → HasClasses (take n classes) old
    → HasAdded old new (get_or classes n d).region (get_or classes n d).servers n
    → HasClasses (take (n + 1) classes) new
one_class classes n d old new inside has added region servers =
    let named = is_named region servers in
    let class = get_or classes n d in
    let before : n ≡ length (take n classes) = omega (arith, length-take n classes) in
    added region servers
    ∙ ap₂ (λ o b. or_else o (cond b (Some n) None)) (has region servers) (named_by_key region servers class)
    ∙ ap (λ m. or_else (position named (take n classes)) (cond (named class) (Some m) None)) before
    ∙ sym (place_next named (take n classes) class) ∙ ap (position named) (sym (take_more classes n d inside))
