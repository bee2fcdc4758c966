-- The causes for which a line is refused, in the order in which they are checked.
use Rattle.std.specs.Prelude.{ℕ}
use Rattle.entry_codec.specs.declared.fault.LineError.{LineError}
use Rattle.entry_codec.specs.declared.fault.LineError.TheVariants.{TooLong, NoEnd, BadKind, BadField, BadMove}
use Rattle.entry_codec.specs.declared.fault.LineError.TheVariants.{CountWrong, TrailingBytes, OutOfMemory}

abbrev pub fault_number : LineError → ℕ
fault_number TooLong = 1
fault_number NoEnd = 2
fault_number BadKind = 3
fault_number (BadField at) = 4
fault_number (BadMove at) = 5
fault_number CountWrong = 6
fault_number TrailingBytes = 7
fault_number OutOfMemory = 8
