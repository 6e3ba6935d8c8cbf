-- What valid certificates show of an instance.
use Rattle.std.proofs.Common.{Result, Ok, Err, IfOk}
use Rattle.hsp_instance.specs.Instance.{Instance, IsInstance}
use Rattle.hsp_cert.specs.Certificate.{Claim}
use Rattle.hsp_cert.specs.Certificate.Claim.{best, short}
use Rattle.hsp_check.specs.Instance.{network_of}
use Rattle.hsp_check.specs.Shown.{HasBestPlan, HasEqualSums, HasNoPlan}
use Rattle.hsp_check.specs.Uses.{table}
use Rattle.hsp_check.specs.Valid.{IsValid}
use Rattle.hsp_check.specs.Verdict.{is_one_of}
use Rattle.hsp_check.proofs.Duality.{prices_show_best, short_shows_none}
use Rattle.hsp_check.proofs.InstanceNetwork.{is_network}

record Shows (it : Instance) (claim : Claim) : Type 0 where
  pub best : HasBestPlan (network_of it) claim
  pub prices : HasEqualSums (network_of it) claim
  pub none : HasNoPlan (network_of it) claim

-- a valid certificate shows what its definition says of the instance
valid_shows : (it : Instance) → IsInstance it → (claim : Claim) → IsValid (network_of it) claim → Shows it claim
valid_shows it is (best c) valid =
    let shown =
    prices_show_best (network_of it) (table c.uses) c.row_prices c.server_prices c.host_prices (is_network it is)
    valid.feasible valid.prices in
    record { best = shown.0; prices = rw valid.cost shown.1; none = tt }
valid_shows it is (short c) valid =
    record {
      best = tt;
      prices = tt;
      none = short_shows_none (network_of it) (is_one_of c.rows) (is_network it is) valid.is_short;
    }

module _ {E : Type 0} (it : Instance) (is : IsInstance it) where
  -- a plan that was made is best
  pub has_best : (made : Result Claim E) → IfOk made (IsValid (network_of it)) → IfOk made (HasBestPlan (network_of it))
  has_best (Ok claim) valid = (valid_shows it is claim valid).best
  has_best (Err e) valid = tt

  -- its prices add up to its cost
  pub has_sums : (made : Result Claim E) → IfOk made (IsValid (network_of it))
      → IfOk made (HasEqualSums (network_of it))
  has_sums (Ok claim) valid = (valid_shows it is claim valid).prices
  has_sums (Err e) valid = tt

  -- a short set that was made shows that there is no plan
  pub has_none : (made : Result Claim E) → IfOk made (IsValid (network_of it)) → IfOk made (HasNoPlan (network_of it))
  has_none (Ok claim) valid = (valid_shows it is claim valid).none
  has_none (Err e) valid = tt
