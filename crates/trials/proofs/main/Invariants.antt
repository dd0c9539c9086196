use Rattle.std.proofs.Common.{◌≡◌}
use Rattle.trials.proofs.main.Given as goal

abbrev pub invariant-loop-start : goal.invariant-loop-start
invariant-loop-start l =
    (goal.iterator-loop-start).can_next l.start-iterator ×
    (goal.iterator-loop-start).is_finite l.start-iterator ×
    (l.start-iterator.text.now ≡ l.input)
