-- The room of one front is within what servers and hosts take.
use Rattle.std.proofs.Common.{◌≡◌, ◌<◌, ◌≤◌, ◌-◌, ◌∙◌, ◌==◌, Bool, ℕ, [], ap, arith, length}
use Rattle.hsp_check.specs.Plan.{is_on}
use Rattle.hsp_prices.specs.Rows.{Service}
use Rattle.hsp_price_text.specs.Claim.{Best}
use Rattle.hsp_prices.specs.Least.{host_at}
use Rattle.hsp_prices.specs.Sums.{host_load_at, load_at}
use Rattle.hsp_log.proofs.FrontShares.{share_le}
use Rattle.hsp_price_dispatch.specs.Holding.{Held, host_room_at, left_where, room_at}
use Rattle.hsp_price_dispatch.specs.Starting.{Fits, IsBegun, capacity_at, limit_at}
use Rattle.hsp_price_dispatch.proofs.Fronts.{sends_there}
use Rattle.hsp_price_dispatch.proofs.Sums.{all_sends, host_load_is, left_is, load_is, sent_where, shares_low, whole}

module _ (at : Service) (plan : Best) (fronts front : ℕ) (own : Held) (some : 0 < fronts) (fits : Fits at plan)
    (begun : IsBegun at plan fronts front own) where
  -- what a front holds at first at servers that pass a test is at most what all classes bring there
  held_low : (test : ℕ → Bool) (load : ℕ) → load ≡ sent_where whole test (all_sends plan.classes)
      → left_where test own.cells ≤ load
  held_low test load is =
      let held = ap (left_where test) begun.cells ∙ left_is fronts front test plan.classes in
      omega (arith, held, shares_low fronts front test (all_sends plan.classes) some, is)

  -- the room of a front at a server
  pub room_low : (j : ℕ) → j < length at.servers → room_at own j ≤ capacity_at at j
  room_low j l =
      omega (
        arith,
        begun.rooms j l,
        share_le fronts front (capacity_at at j - load_at at plan [] j) some,
        held_low (λ k. k == j) (load_at at plan [] j) (load_is at plan j),
        fits.load.0 j l,
      )

  -- and at a host
  pub host_room_low : (h : ℕ) → h < length at.hosts → host_room_at own h ≤ limit_at at h
  host_room_low h l =
      let same = ap (λ (s : Service). left_where (λ k. is_on (host_at s k) h) own.cells) begun.service in
      omega (
        arith,
        begun.host_rooms h l,
        share_le fronts front (limit_at at h - host_load_at at plan [] h) some,
        same,
        held_low (λ k. is_on (host_at at k) h) (host_load_at at plan [] h)
            (host_load_is at plan h (sends_there (length at.servers) plan.classes fits.there)),
        fits.load.1 h l,
      )
