use Rattle.std.proofs.Common.{◌≡◌, ◌+◌, ◌*◌, ◌≤◌}
use Rattle.sets.specs.Counting.{how_many}
use Rattle.source.specs.Meaning.{pairs_to}
use Rattle.source.proofs.questions.Source.pairs.Given as goal

abbrev pub invariant-loop-i : goal.invariant-loop-i
invariant-loop-i g l = (l.count ≡ pairs_to (g.Self.Source.means l.self) l.i) × (l.count ≤ 128 * l.i)

abbrev pub invariant-loop-j : goal.invariant-loop-j
invariant-loop-j g l =
    let M = g.Self.Source.means l.self in (l.count ≡ pairs_to M l.i + how_many l.j (M.holds (l.i + 1))) × (l.count ≤ 128 * l.i + l.j)
