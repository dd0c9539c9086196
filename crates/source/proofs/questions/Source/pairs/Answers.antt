use Rattle.std.proofs.Common.{◌≡◌, ◌+◌, sym, ap, arith}
use Rattle.sets.specs.Counting.{how_many}
use Rattle.source.proofs.Sums.{how_many_none, how_many_step, pairs_to_none, pairs_to_step}
use Rattle.source.proofs.questions.Source.pairs.Goals as goal
use Rattle.source.proofs.questions.Source.pairs.Goals.{then-holds, else-holds}

pub loop-i-init : goal.loop-i-init
loop-i-init g c = (sym (pairs_to_none (g.Self.Source.means c.args.self.now)), omega arith)

pub loop-j-init : goal.loop-j-init
loop-j-init g c = let z = how_many_none ((g.Self.Source.means c.args.self.now).holds (c.loop-i.i + 1)) in (omega arith, omega arith)

pub loop-j-preserved : goal.loop-j-preserved
loop-j-preserved g c =
    let s = how_many_step c.loop-j.j ((g.Self.Source.means c.args.self.now).holds (c.loop-i.i + 1)) in
    elim c.if-holds.branch [
      | then-holds w ↦ (let e = rw (← w.if-holds.ensures) at s in omega arith, omega arith)
      | else-holds w ↦ (let e = rw (← w.if-holds.ensures) at s in omega arith, omega arith)
    ]

pub loop-i-preserved : goal.loop-i-preserved
loop-i-preserved g c =
    let M = g.Self.Source.means c.args.self.now in
    let s = pairs_to_step M c.loop-i.i in
    let b = g.Self.Source.bounded c.args.self.now in
    let n : c.loop-j.j ≡ M.n = omega arith in
    let e = ap (λ k. how_many k (M.holds (c.loop-i.i + 1))) n in
    (omega arith, omega arith)
