-- What a verdict says of a certificate.
use Rattle.std.proofs.Common.{◌≡◌, ℕ, ◌+◌, ◌==◌, ◌∙◌, ◌↔◌, ◌⊎◌, inl, inr, true, false, Some, Ok, Err, List, [], ◌∷◌}
use Rattle.std.proofs.Common.{All, sum_by, slice_index_or, if◌then◌else◌, refl, sym, arith, eqb-true}
use Rattle.std.specs.Prelude.{◌&&◌, IfOk, IfSome, Result}
use Rattle.std.proofs.lemmas.List.Sums.{sum_by-cons}
use Rattle.std.proofs.lemmas.Bool.{cases_Bool, and_parts}
use Rattle.hsp_cert.specs.Certificate.{Claim, Best as BestClaim, Short as ShortClaim, IsCertificate, IsBest, best_of}
use Rattle.hsp_cert.specs.Certificate.{short_of}
use Rattle.hsp_cert.specs.Certificate.Claim.{best, short}
use Rattle.hsp_cert.specs.declared.use_line.UseLine.{UseLine}
use Rattle.hsp_check.specs.declared.verdict.Reason.{Reason}
use Rattle.hsp_check.specs.declared.verdict.Reason.TheVariants.{Shape, NoSuchUse, RowSum, Load, Cost, ArcPrice}
use Rattle.hsp_check.specs.declared.verdict.Reason.TheVariants.{UsedArcPrice, IdlePrice, DemandSum, CapacitySum}
use Rattle.hsp_check.specs.declared.verdict.Reason.TheVariants.{NotShort}
use Rattle.hsp_check.specs.declared.verdict.Verdict.{Verdict}
use Rattle.hsp_check.specs.declared.verdict.Verdict.TheVariants.{Yes, No}
use Rattle.hsp_check.specs.Network.{Network, IsNetwork, is_allowed}
use Rattle.hsp_check.specs.Plan.{Plan, Feasible, Best}
use Rattle.hsp_check.specs.Short.{IsShort}
use Rattle.hsp_transport.specs.Sums.{times}
use Rattle.hsp_check.specs.Uses.{table}
use Rattle.hsp_check.specs.Valid.{IsValid, IsValidPlan, IsValidSet}
use Rattle.hsp_check.specs.Verdict.{IsVerdict, Meets, PlanMeets, SetMeets, is_one_of}
use Rattle.hsp_transport.proofs.Summing.{sum_by_same_all}
use Rattle.hsp_check.proofs.Ranges.{prices_low}
use Rattle.hsp_check.proofs.Duality.{prices_show_best, short_shows_none}
use Rattle.hsp_transport.proofs.Rowwise.{sum_by_none}

-- a plan is 0 where its uses may not go
unused : (n : Network) (uses : List UseLine) → All (λ u. is_allowed n u.row u.site ≡ true) uses → (i s : ℕ)
    → is_allowed n i s ≡ false → table uses i s ≡ 0
unused n uses each i s never =
    sum_by_same_all (λ u. if u.row == i && u.site == s then u.count else 0) (λ _. 0) uses
    (λ k d l.
    elsewhere (slice_index_or uses k d) (each k d l)
    (cases_Bool ((slice_index_or uses k d).row == i && (slice_index_or uses k d).site == s)))
    ∙ sum_by_none uses
  where
    elsewhere : (u : UseLine) → is_allowed n u.row u.site ≡ true
        → ((u.row == i && u.site == s) ≡ true) ⊎ ((u.row == i && u.site == s) ≡ false)
        → (if u.row == i && u.site == s then u.count else 0) ≡ 0
    elsewhere u may (inl here) =
        let parts = and_parts (u.row == i) (u.site == s) here in
        let row = eqb-true u.row i parts.0 in
        let site = eqb-true u.site s parts.1 in
        let there : is_allowed n i s ≡ true = rw (row, site) at may in
        absurd (let both : true ≡ false = sym there ∙ never in cc)
    elsewhere u may (inr away) = rw away refl

-- a plan that meets every condition is valid
plan_valid : (n : Network) (c : BestClaim) → IsBest c → ((r : Reason) → PlanMeets n c r) → IsValidPlan n c
plan_valid n c ranges met =
    let shape = met Shape in
    let loads = met Load in
    let idle = met IdlePrice in
    record {
      allowed = met NoSuchUse;
      feasible =
          record {
            allowed = unused n c.uses (met NoSuchUse);
            flow = record { met = met RowSum; within = loads.0; hosted = loads.1 };
          };
      cost = met Cost;
      prices = record { below = met ArcPrice; used = met UsedArcPrice; idle = idle.0; idle_host = idle.1 };
      row_prices = (shape.0, prices_low c.row_prices ranges.row_prices);
      server_prices = (shape.1, prices_low c.server_prices ranges.server_prices);
      host_prices = (shape.2, prices_low c.host_prices ranges.host_prices);
    }

-- a valid plan meets every condition
valid_plan : (n : Network) (c : BestClaim) → IsValidPlan n c → (r : Reason) → PlanMeets n c r
valid_plan n c valid Shape = (valid.row_prices.0, valid.server_prices.0, valid.host_prices.0)
valid_plan n c valid NoSuchUse = valid.allowed
valid_plan n c valid RowSum = valid.feasible.flow.met
valid_plan n c valid Load = (valid.feasible.flow.within, valid.feasible.flow.hosted)
valid_plan n c valid Cost = valid.cost
valid_plan n c valid ArcPrice = valid.prices.below
valid_plan n c valid UsedArcPrice = valid.prices.used
valid_plan n c valid IdlePrice = (valid.prices.idle, valid.prices.idle_host)
valid_plan n c valid DemandSum = tt
valid_plan n c valid CapacitySum = tt
valid_plan n c valid NotShort = tt

-- a set that meets every condition is valid
set_valid : (n : Network) (c : ShortClaim) → ((r : Reason) → SetMeets n c r) → IsValidSet n c
set_valid n c met =
    let demand = met DemandSum in
    let capacity = met CapacitySum in
    let less = met NotShort in
    record { there = met Shape; is_short = omega arith; demand = demand; capacity = capacity }

-- a valid set meets every condition
valid_set : (n : Network) (c : ShortClaim) → IsValidSet n c → (r : Reason) → SetMeets n c r
valid_set n c valid Shape = valid.there
valid_set n c valid DemandSum = valid.demand
valid_set n c valid CapacitySum = valid.capacity
valid_set n c valid NotShort = let less = valid.is_short in omega (arith, valid.demand, valid.capacity)
valid_set n c valid NoSuchUse = tt
valid_set n c valid RowSum = tt
valid_set n c valid Load = tt
valid_set n c valid Cost = tt
valid_set n c valid ArcPrice = tt
valid_set n c valid UsedArcPrice = tt
valid_set n c valid IdlePrice = tt

-- a certificate that meets every condition is valid
met_valid : (n : Network) (c : Claim) → IsCertificate c → ((r : Reason) → Meets n c r) → IsValid n c
met_valid n (best c) ranges met = plan_valid n c ranges met
met_valid n (short c) ranges met = set_valid n c met

-- a valid certificate meets every condition
valid_met : (n : Network) (c : Claim) → IsValid n c → (r : Reason) → Meets n c r
valid_met n (best c) valid = valid_plan n c valid
valid_met n (short c) valid = valid_set n c valid

-- the verdict is yes just where the certificate is valid
pub yes_valid : (n : Network) (c : Claim) (v : Verdict) → IsCertificate c → IsVerdict n c v → (v ≡ Yes) ↔ IsValid n c
yes_valid n c Yes ranges is = (λ yes. met_valid n c ranges is, λ valid. refl)
yes_valid n c (No r) ranges is = (λ yes. absurd (cc), λ valid. absurd (is.0 (valid_met n c valid r)))

-- a valid plan is best, and its prices add up to its cost
valid_best : (n : Network) (c : BestClaim) → IsNetwork n → IsValidPlan n c
    → Best n (table c.uses)
    × (times n.demands c.row_prices ≡ c.cost + times n.capacities c.server_prices + times n.limits c.host_prices)
valid_best n c is valid =
    let shown =
    prices_show_best n (table c.uses) c.row_prices c.server_prices c.host_prices is valid.feasible valid.prices in
    let cost = valid.cost in
    (shown.0, omega (arith, shown.1))

-- all that a verdict on a certificate says
pub record Says (n : Network) (c : Claim) (v : Verdict) : Type 0 where
  pub verdict : IsVerdict n c v
  pub valid : (v ≡ Yes) ↔ IsValid n c
  pub best_plan : v ≡ Yes → IfSome (best_of c) (λ b. Best n (table b.uses))
  pub prices : v ≡ Yes
      → IfSome (best_of c)
      (λ b. times n.demands b.row_prices ≡ b.cost + times n.capacities b.server_prices + times n.limits b.host_prices)
  pub short_set : v ≡ Yes → IfSome (short_of c) (λ s. IsShort n (is_one_of s.rows))
  pub none : v ≡ Yes → IfSome (short_of c) (λ _. (x : Plan) → Feasible n x → ⊥)

-- a verdict says of a certificate what its definition says
pub says : (n : Network) (c : Claim) (v : Verdict) → IsNetwork n → IsCertificate c → IsVerdict n c v → Says n c v
says n (best b) v is ranges verdict =
    let told = yes_valid n (best b) v ranges verdict in
    record {
      verdict = verdict;
      valid = told;
      best_plan = λ yes. (valid_best n b is (told.0 yes)).0;
      prices = λ yes. (valid_best n b is (told.0 yes)).1;
      short_set = λ yes. tt;
      none = λ yes. tt;
    }
says n (short s) v is ranges verdict =
    let told = yes_valid n (short s) v ranges verdict in
    record {
      verdict = verdict;
      valid = told;
      best_plan = λ yes. tt;
      prices = λ yes. tt;
      short_set = λ yes. (told.0 yes).is_short;
      none = λ yes. short_shows_none n (is_one_of s.rows) is (told.0 yes).is_short;
    }

-- the certificate of a plan, or of a short set, as it was lent
pub is_best : (c : Claim) (b : BestClaim) → Some b ≡ best_of c → c ≡ best b
is_best (best a) b same = cc
is_best (short a) b same = absurd (cc)

-- the certificate of a short set is that set
pub is_short : (c : Claim) (s : ShortClaim) → Some s ≡ short_of c → c ≡ short s
is_short (short a) s same = cc
is_short (best a) s same = absurd (cc)

-- what holds of a value holds as well of what follows from it
pub where_ok : {A E : Type 0} (P Q : A → Type 0) (r : Result A E) → ((x : A) → P x → Q x) → IfOk r P → IfOk r Q
where_ok P Q (Ok x) f p = f x p
where_ok P Q (Err e) f p = tt
