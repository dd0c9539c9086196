use Rattle.std.proofs.Common.{◌-◌, ◌≤◌}
use Rattle.sources.proofs.show.print_row.Given as goal

abbrev pub invariant-loop-unknown : goal.invariant-loop-unknown
invariant-loop-unknown g l = l.from ≤ 129

abbrev pub decreases-loop-unknown : goal.decreases-loop-unknown
decreases-loop-unknown g l = 129 - l.from
