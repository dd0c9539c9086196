-- The numbers of a source's refusals. Assumes nothing.
use Rattle.std.specs.Prelude.{ℕ}
use Rattle.source.specs.declared.faults.SourceFault.{SourceFault}
use Rattle.source.specs.declared.faults.SourceFault.TheVariants.{Limit, Room, NoSuchUnknown}

abbrev pub fault_number : SourceFault → ℕ
fault_number Limit = 9
fault_number Room = 10
fault_number NoSuchUnknown = 11
