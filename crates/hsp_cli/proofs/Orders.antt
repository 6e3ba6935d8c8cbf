-- Words that give no order.
use Rattle.std.proofs.Common.{◌≡◌, ℕ, List, Result, Ok, Err, ap, refl}
use Rattle.std.specs.Prelude.{IsErrAnd}
use Rattle.hsp_cli_orders.specs.Orders.{IsUsage}
use Rattle.hsp_cli_orders.specs.declared.fault.CommandFault.{CommandFault}
use Rattle.hsp_cli_orders.specs.declared.fault.CommandFault.TheVariants as fault
use Rattle.hsp_cli.specs.Commands.{IsOrdered}

-- words that give no order are ordered nothing
pub refused : (words : List (List ℕ)) (it : CommandFault) → (it ≡ fault.Usage → IsUsage words)
    → IsOrdered words (Err it)
refused words fault.Usage usage = usage refl
refused words fault.OutOfMemory usage = tt

-- a command that ended by a failure
pub ends_by : {A E : Type 0} (ended : Result A E) (failure : E) → IsErrAnd ended (λ it. it ≡ failure)
    → ended ≡ Err failure
ends_by (Ok status) failure is = absurd is
ends_by (Err it) failure is = ap (λ f. Err f) is
