-- The faults of talks that stopped.
use Rattle.std.specs.Prelude.{◌≢◌}
use Rattle.hsp_talk.specs.declared.stop.Stop.{Stop}
use Rattle.hsp_talk.specs.declared.stop.Stop.TheVariants as stop
use Rattle.hsp_price_answers.specs.declared.asking.NoHeader.{NoHeader}
use Rattle.hsp_log.specs.declared.fault.RowFault.{RowFault}
use Rattle.hsp_log.specs.declared.fault.RowFault.TheVariants.{Header, ReadFailed, WriteFailed}
use Rattle.hsp_inputs.specs.declared.stream_fault.StreamFault.{StreamFault}
use Rattle.hsp_inputs.specs.declared.stream_fault.StreamFault.TheVariants.{Log, OutOfMemory}

abbrev pub fault_of : Stop NoHeader → StreamFault
fault_of stop.ReadFailed = Log ReadFailed
fault_of stop.WriteFailed = Log WriteFailed
fault_of stop.OutOfMemory = OutOfMemory
fault_of (stop.Fault none) = Log Header

-- a fault that is found before the log is read: it is not the log's, and memory did not run out
pub record IsBeforeLog (fault : StreamFault) : Type 0 where
  pub memory : fault ≢ OutOfMemory
  pub log : (of : RowFault) → fault ≢ Log of
