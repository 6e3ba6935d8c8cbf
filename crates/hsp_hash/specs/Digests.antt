-- The digests of a handle, as far as they are known.
use Rattle.std.specs.Prelude.{◌≡◌, ℕ, List, Option, IfSome}
use Rattle.hsp_hash.specs.Place.{digest}
use Rattle.hsp_hash.specs.declared.option.HashOption.TheVariants.{ByNa, ByLocal, ByHandle}

-- each digest that is known, by its hash option, is that of the handle
pub record AreDigestsOf (handle : List ℕ) (by_na by_local by_handle : Option (List ℕ)) : Type 0 where
  pub na : IfSome by_na (λ known. known ≡ digest ByNa handle)
  pub local : IfSome by_local (λ known. known ≡ digest ByLocal handle)
  pub whole : IfSome by_handle (λ known. known ≡ digest ByHandle handle)
