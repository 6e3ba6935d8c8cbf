-- The servers of a site in turn: the next one, and one that has no capacity.
use Rattle.std.proofs.Common.{◌≡◌, ◌∙◌, ◌<◌, ◌+◌, ◌++◌, ◌∷◌, [], ℕ, List, None, Some, Err, add-one, drop, get_or}
use Rattle.std.proofs.Common.{length, refl}
use Rattle.std.proofs.Math.Seq.{drop-cons}
use Rattle.std.specs.List.{position_from}
use Rattle.hsp_tables.specs.Capacities.{CapacityEntry}
use Rattle.hsp_instance.specs.Building.{capacity_of, is_at, servers_at}
use Rattle.hsp_instance.specs.Instance.{Host, Server, SiteServer}
use Rattle.hsp_instance.specs.declared.fault.BuildFault.TheVariants.{NoCapacity}

module _ (rows : List CapacityEntry) (hosts : List Host) (n : ℕ) (name : List ℕ) (earlier : List Server)
    (servers : List SiteServer) (place : ℕ) (own : SiteServer)
    (is : own ≡ get_or servers place own) (less : place < length servers) where
  -- the servers that are left begin with this one
  left : drop place servers ≡ own ∷ drop (place + 1) servers
  left = drop-cons servers place own less ∙ rw (← is, add-one) refl

  -- a server with a capacity is put behind those before it
  pub next_goes_on : (capacity : ℕ) → capacity_of rows name own.id ≡ Some capacity
      → servers_at rows hosts n name (place + 1)
      (earlier
      ++ record {
        site = n;
        place = place;
        id = own.id;
        capacity = capacity;
        host = position_from (is_at own.address) 0 hosts;
      } ∷ []) (drop (place + 1) servers)
      ≡ servers_at rows hosts n name place earlier (drop place servers)
  next_goes_on capacity found = rw (left, found) refl

  -- a server without a capacity is the fault
  pub next_has_none : capacity_of rows name own.id ≡ None
      → servers_at rows hosts n name place earlier (drop place servers) ≡ Err (NoCapacity n own.id)
  next_has_none none = rw (left, none) refl
