-- What the ranges and orders of a certificate say of its numbers.
use Rattle.std.proofs.Common.{◌≡◌, ℕ, ◌+◌, ◌*◌, ◌<◌, ◌≤◌, true, List, [], ◌∷◌, length, inl, inr}
use Rattle.std.proofs.Common.{Some, arith, eqb-true}
use Rattle.std.specs.Prelude.{◌&&◌, ◌==◌, nat_le, nat_lt}
use Rattle.std.specs.List.{list_all}
use Rattle.std.proofs.lemmas.List.Sums.{AllPass-from_list_all}
use Rattle.std.proofs.lemmas.Bool.{and_parts, leb-true, ltb-true, cases_Bool}
use Rattle.hsp_cert.specs.declared.use_line.UseLine.{UseLine}
use Rattle.hsp_cert.specs.Certificate.{is_use, is_price, is_before, ascends, ascends_from}
use Rattle.hsp_check.specs.Prices.{ArePrices}

-- prices that pass their test are within their limit
pub prices_low : (prices : List ℕ) → list_all is_price prices ≡ true → ArePrices prices
prices_low prices all k d l = leb-true _ _ (AllPass-from_list_all is_price prices all k d l)

-- the parts of a use within the ranges
record InRange (one : UseLine) : Type 0 where
  row : one.row ≤ 8191
  site : one.site ≤ 31
  least : 1 ≤ one.count
  most : one.count ≤ 1000000

-- a use that passes its test has a row and a site within their limits
in_range : (one : UseLine) → is_use one ≡ true → InRange one
in_range one test =
    let both =
    and_parts (nat_le one.row 8191 && nat_le one.site 31) (nat_le 1 one.count && nat_le one.count 1000000) test in
    let places = and_parts (nat_le one.row 8191) (nat_le one.site 31) both.0 in
    let counts = and_parts (nat_le 1 one.count) (nat_le one.count 1000000) both.1 in
    record {
      row = leb-true _ _ places.0;
      site = leb-true _ _ places.1;
      least = leb-true _ _ counts.0;
      most = leb-true _ _ counts.1;
    }

-- the number of a use's pair, 32 sites a row
abbrev place_of : UseLine → ℕ
place_of one = one.row * 32 + one.site

-- of two uses in their order the later one has the later place
later : (u v : UseLine) → InRange u → InRange v → is_before u v ≡ true → place_of u < place_of v
later u v a b test = elim (cases_Bool (nat_lt u.row v.row)) [
  | inl less ↦ let l = ltb-true u.row v.row less in let s = a.site in omega arith
  | inr not-less ↦
      let same : (u.row == v.row && nat_lt u.site v.site) ≡ true = rw not-less at test in
      let parts = and_parts (u.row == v.row) (nat_lt u.site v.site) same in
      let r = eqb-true u.row v.row parts.0 in
      let l = ltb-true u.site v.site parts.1 in
      omega arith
]

-- uses in their order are no more than there are places
few_after : (u : UseLine) (uses : List UseLine) → InRange u → list_all is_use uses ≡ true
    → ascends_from is_before (Some u) uses ≡ true → place_of u + length uses < 262144
few_after u [] a all order = let r = a.row in let s = a.site in omega arith
few_after u (v ∷ uses) a all order =
    let each = and_parts (is_use v) (list_all is_use uses) all in
    let ascending = and_parts (is_before u v) (ascends_from is_before (Some v) uses) order in
    let b = in_range v each.0 in
    let l = later u v a b ascending.0 in
    let rest = few_after v uses b each.1 ascending.1 in
    omega arith

-- there are no more uses than pairs
pub few_uses : (uses : List UseLine) → list_all is_use uses ≡ true → ascends is_before uses ≡ true
    → length uses < 4294967296
few_uses [] all order = omega arith
few_uses (u ∷ uses) all order =
    let each = and_parts (is_use u) (list_all is_use uses) all in
    let ascending = and_parts true (ascends_from is_before (Some u) uses) order in
    let rest = few_after u uses (in_range u each.0) each.1 ascending.1 in
    omega arith
