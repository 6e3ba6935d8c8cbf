use Rattle.std.proofs.Common.{◌≡◌, drop, Some}
use Rattle.hsp_dispatch.specs.Dispatch.{arc_to}
use Rattle.hsp_dispatch.specs.Shares.{number_of}
use Rattle.hsp_dispatch.proofs.sharing.server_at.Given as goal

-- no earlier arc is to the site
abbrev pub invariant-loop-arc : goal.invariant-loop-arc
invariant-loop-arc l =
    number_of (arc_to l.site (Some (drop l.arc-index l.arc-items))) ≡ number_of (arc_to l.site (Some l.arc-items))
