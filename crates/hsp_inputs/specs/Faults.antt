-- The faults of runs over logs of any length.
use Rattle.hsp_inputs.specs.declared.fault.Fault.{Fault}
use Rattle.hsp_inputs.specs.declared.fault.Fault.TheVariants as fault
use Rattle.hsp_inputs.specs.declared.stream_fault.StreamFault.{StreamFault}
use Rattle.hsp_inputs.specs.declared.stream_fault.StreamFault.TheVariants.{Input, OutOfMemory}

-- a fault of the files; that memory ran out is reported without a part
abbrev pub fault_of_input : Fault → StreamFault
fault_of_input fault.OutOfMemory = OutOfMemory
fault_of_input other = Input other
