-- The faults of a simulation.
-- Source: this project's profile.
use Rattle.snoop_trace.specs.declared.fault.WriteFault.{WriteFault}
use Rattle.snoop_trace.specs.declared.fault.WriteFault.TheVariants as write
use Rattle.snoop_engine.specs.declared.fault.SimFault.{SimFault, TheVariants.{NoMemory, Write}}

-- a simulation that could not write stops with the same fault
abbrev pub fault_of_write : WriteFault → SimFault
fault_of_write write.Write = Write
fault_of_write write.NoMemory = NoMemory
