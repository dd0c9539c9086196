use Rattle.std.proofs.Common.{arith}
use Rattle.source.proofs.Asking.{next_few}
use Rattle.sources.proofs.show.print_row.Goals as goal

pub overflow_add-from : goal.overflow_add-from
overflow_add-from g c =
    let s = c.args.source.now in
    let l = next_few (g.S.Source.means s) (g.S.Source.bounded s) c.args.equation c.loop-unknown.from c.in-Some.unknown c.in-Some.ensures in
    omega arith

pub loop-unknown-preserved : goal.loop-unknown-preserved
loop-unknown-preserved g c =
    let s = c.args.source.now in
    let l = next_few (g.S.Source.means s) (g.S.Source.bounded s) c.args.equation c.loop-unknown.from c.in-Some.unknown c.in-Some.ensures in
    omega arith
