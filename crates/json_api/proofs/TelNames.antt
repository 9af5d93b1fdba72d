-- The names of the faults of a query's URI are short.
use Rattle.std.proofs.Common.{◌≤◌, length, arith}
use Rattle.telnp.specs.declared.fault.TelFault.{TelFault}
use Rattle.telnp.specs.declared.fault.TelFault.TheVariants.{NotTel, BadNumber, BadParameter, ParameterTwice, LocalNumber, TooLong}
use Rattle.telnp.specs.Faults.{fault_name}

pub short_name : (fault : TelFault) → length (fault_name fault) ≤ 16
short_name NotTel = omega arith
short_name BadNumber = omega arith
short_name BadParameter = omega arith
short_name ParameterTwice = omega arith
short_name LocalNumber = omega arith
short_name TooLong = omega arith
