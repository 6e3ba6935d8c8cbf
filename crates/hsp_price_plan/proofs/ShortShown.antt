-- Short groups show a valid certificate, where no row that only keeps arcs to the servers that they reach has another.
use Rattle.std.proofs.Common.{◌≡◌, ◌∙◌, All, Bool, List, inl, subst}
use Rattle.hsp_transport.specs.Lists.{flag_at}
use Rattle.hsp_network.specs.Answer.{IsShortSet}
use Rattle.hsp_network.specs.Network.{Transport}
use Rattle.hsp_price_text.specs.Claim.{Short}
use Rattle.hsp_price_text.specs.declared.certificate.PriceCertificate.TheVariants as certificate
use Rattle.hsp_prices.specs.Groups.{AreGroupsOf, Group}
use Rattle.hsp_prices.specs.KeptRows.{KeptRow, with_leaving}
use Rattle.hsp_prices.proofs.ShortShown.{groups_show_short}
use Rattle.hsp_price_check.specs.declared.numbers.ServiceNumbers.{ServiceNumbers}
use Rattle.hsp_price_plan.specs.Shortage.{AreReachedBy, IsShortageFor, IsShortagePast}
use Rattle.hsp_price_plan.specs.Solving.{group_network}
use Rattle.hsp_price_plan.specs.Planning.{IsFaultOf, IsValidFor}
use Rattle.hsp_price_plan.specs.declared.fault.PlanFault.TheVariants.{TooLarge}
use Rattle.hsp_price_plan.proofs.PlanShown.{same_network}

-- the certificate of the servers that short groups reach is valid
pub short_valid : (numbers : ServiceNumbers) (kept : List KeptRow) (groups : List Group) (set reached : List Bool)
    (short : Short) → AreGroupsOf kept groups → IsShortSet (group_network numbers groups) set
    → AreReachedBy groups set reached → All (λ row. with_leaving (flag_at reached) row ≡ row) kept
    → IsShortageFor numbers groups reached short → IsValidFor numbers kept (certificate.Shortage short)
short_valid numbers kept groups set reached short of_rows is_short are leaving is at rows held =
    let own = is at rows kept held.numbers_are held.rows_are of_rows leaving in
    groups_show_short at rows kept groups set short held.service held.rows_are
    (record {
      of_rows = of_rows;
      is_short =
          subst (λ (net : Transport). IsShortSet net set) (same_network numbers at groups held.numbers_are) is_short;
      servers = λ j. own.servers j ∙ are at j;
      there = own.there;
      leaving = own.leaving;
      demand = own.demand;
      capacity = own.capacity;
    })

-- and where it is past the limits of a text, the rows are too large
pub short_too_large : (numbers : ServiceNumbers) (kept : List KeptRow) (groups : List Group) (set reached : List Bool)
    → AreGroupsOf kept groups → IsShortSet (group_network numbers groups) set → AreReachedBy groups set reached
    → All (λ row. with_leaving (flag_at reached) row ≡ row) kept → IsShortagePast numbers groups reached
    → IsFaultOf numbers kept TooLarge
short_too_large numbers kept groups set reached of_rows is_short are leaving past at rows held =
    inl (
      certificate.Shortage past.short,
      short_valid numbers kept groups set reached past.short of_rows is_short are leaving past.is at rows held,
      record { servers = past.servers; past = past.past },
    )
