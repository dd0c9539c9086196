use Rattle.std.proofs.Common.{arith}
use Rattle.dense.proofs.Known.{row_says}
use Rattle.dense.proofs.rows.Dense.row.Goals as goal

pub returns : goal.returns
returns c =
    let g = rw c.as_slice.ensures at c.get.ensures.lookup in
    let e = c.in_ok-checked_sub.ensures in
    rw c.copied.ensures (row_says c.args.self.now c.args.equation c.in_ok-checked_sub.field-0 c.get.result g (grind arith))
