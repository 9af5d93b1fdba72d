-- Faults of statements, and what a store reports of each.
use Rattle.settle.specs.declared.store.StoreFault.{StoreFault}
use Rattle.settle.specs.declared.store.StoreFault.TheVariants.{NoMemory, Storage}
use Rattle.sql_rows.specs.declared.fault.Fault.{Fault}
use Rattle.sql_rows.specs.declared.fault.Fault.TheVariants.{Device, Memory}
use Rattle.sqlite.specs.declared.error.Error.{Error}
use Rattle.sqlite.specs.declared.error.Error.TheVariants.{SqliteFailure}
use Rattle.sqlite.specs.declared.error.ErrorCode.{ErrorCode}
use Rattle.sqlite.specs.declared.error.ErrorCode.TheVariants.{OutOfMemory}

abbrev pub fault_of_code : ErrorCode → Fault
fault_of_code OutOfMemory = Memory
fault_of_code _ = Device

-- The fault of an error: `Memory` only if SQLite is out of memory.
abbrev pub fault_of : Error → Fault
fault_of (SqliteFailure code) = fault_of_code code
fault_of _ = Device

abbrev pub store_fault_of : Fault → StoreFault
store_fault_of Device = Storage
store_fault_of Memory = NoMemory
