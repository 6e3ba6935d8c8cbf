-- Names in first-seen order are few where all names are among few.
use Rattle.std.proofs.Common.{◌≡◌, ◌∙◌, ◌≤◌, ℕ, true, List, length, sym, arith}
use Rattle.std.specs.List.{Contains}
use Rattle.std.specs.Str.{bytes_eq}
use Rattle.std.specs.Cmp.Lexicographic.{nat_list_eq_equiv, same_text}
use Rattle.std.proofs.lemmas.List.Elements.{All-contains, All-contains_itself, All-from_recursion, All-weaker}
use Rattle.std.proofs.lemmas.List.Elements.{recursion_from_All}
use Rattle.std.proofs.lemmas.Map.Made.{length-le_from_is_member}
use Rattle.std.proofs.lemmas.Map.Views.{Contains-from_any, list_any-from_Contains}
use Rattle.hsp_tables.specs.Table.{first_seen}
use Rattle.hsp_tables.proofs.SeenNames.{seen_among, seen_apart}
use Rattle.hsp_inputs.specs.Stated.{AreFew}

-- names that pass the test are the same
same : (a b : List ℕ) → bytes_eq a b ≡ true → a ≡ b
same a b e = same_text a b (sym e)

-- names that are few in first-seen order are few
pub few_names : (most : ℕ) (regions : List (List ℕ)) → length (first_seen regions) ≤ most → AreFew most regions
few_names most regions few =
    let seen = first_seen regions in
    let has =
    λ (q : List ℕ) (there : Contains regions q). Contains-from_any same q seen
    (seen_among q regions ∙ list_any-from_Contains nat_list_eq_equiv q regions there) in (
      seen,
      few,
      recursion_from_All (Contains seen) regions
          (All-weaker (Contains regions) (Contains seen) has regions (All-contains_itself regions)),
    )

-- few names are few in first-seen order
pub few_seen : (most : ℕ) (regions : List (List ℕ)) → AreFew most regions → length (first_seen regions) ≤ most
few_seen most regions (names, few, are) =
    let less =
    length-le_from_is_member nat_list_eq_equiv (first_seen regions) names (seen_apart regions)
    (λ q there. list_any-from_Contains nat_list_eq_equiv q names
    (All-contains (Contains names) regions q (All-from_recursion (Contains names) regions are)
    (Contains-from_any same q regions (sym (seen_among q regions) ∙ there)))) in
    omega (arith, less, few)
