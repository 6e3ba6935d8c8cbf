-- Runs that are refused before the log.
use Rattle.std.proofs.Common.{◌≢◌}
use Rattle.hsp_inputs.specs.declared.fault.Fault.{Fault}
use Rattle.hsp_inputs.specs.declared.fault.Fault.TheVariants as input
use Rattle.hsp_price_answers.specs.AnswerRun.{Refuses, RunOf}
use Rattle.hsp_price_answers.specs.AnswersShown.{IsRefused}
use Rattle.hsp_inputs.specs.Faults.{fault_of_input}
use Rattle.hsp_log.specs.declared.fault.RowFault.{RowFault}
use Rattle.hsp_inputs.specs.declared.stream_fault.StreamFault.{StreamFault}
use Rattle.hsp_inputs.specs.declared.stream_fault.StreamFault.TheVariants.{Log}

-- a fault that is not the log's, and nothing was read or sent
pub refused : {S : Type 0} (run : RunOf S) (fault : StreamFault) → ((of : RowFault) → fault ≢ Log of)
    → Refuses fault run → IsRefused run
refused run fault apart is = record { untouched = is.0; fault = fault; is = is.1; before = apart }

-- a fault of the inputs is not the log's
input_none : (fault : Fault) (of : RowFault) → fault_of_input fault ≢ Log of
input_none input.OutOfMemory of e = cc (e)
input_none other of e = cc (e)

-- a fault of the inputs refuses the run
pub input_refused : {S : Type 0} (run : RunOf S) (fault : Fault) → Refuses (fault_of_input fault) run → IsRefused run
input_refused run fault is = refused run (fault_of_input fault) (input_none fault) is
