-- The faults of opening a file.
use Rattle.settle.specs.declared.store.StoreFault.{StoreFault}
use Rattle.settle.specs.declared.store.StoreFault.TheVariants as store
use Rattle.sql_rows.specs.declared.fault.Fault.{Fault}
use Rattle.sql_rows.specs.declared.fault.Fault.TheVariants as rows
use Rattle.sql_store.specs.declared.file_fault.FileFault.{FileFault}
use Rattle.sql_store.specs.declared.file_fault.FileFault.TheVariants.{Storage, NoMemory}

-- The fault of a file for a fault of the database.
abbrev pub file_fault_of : Fault → FileFault
file_fault_of rows.Device = Storage
file_fault_of rows.Memory = NoMemory

-- The fault of a file for a fault of the store.
abbrev pub opening_fault_of : StoreFault → FileFault
opening_fault_of store.Storage = Storage
opening_fault_of store.NoMemory = NoMemory
