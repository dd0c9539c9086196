use Rattle.std.proofs.Common.{◌≡◌, ◌-◌, ◌++◌}
use Rattle.sets.specs.Members.{member_of}
use Rattle.sparse.specs.Cells.{numbers_to}
use Rattle.sparse.proofs.filling.fill.Given as goal

abbrev pub invariant-loop-unknown : goal.invariant-loop-unknown
invariant-loop-unknown g l = l.cells ≡ l.initial.cells ++ numbers_to (l.unknown - 1) (member_of l.unknowns.bits)
