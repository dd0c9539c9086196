use Rattle.std.proofs.Common.{◌≡◌, drop}
use Rattle.source.specs.Growth.{vacant, after_changes}
use Rattle.source.proofs.growing.replay.Given as goal

abbrev pub invariant-loop-change : goal.invariant-loop-change
invariant-loop-change g l =
    after_changes g.G.Growing.ROOM (g.G.Source.means l.source) (drop l.change-index l.changes) ≡
    after_changes g.G.Growing.ROOM vacant l.changes
