use Rattle.std.proofs.Common.{arith}
use Rattle.sets.proofs.Bitwise.{subset_decided}
use Rattle.sets.proofs.numbers.Numbers.is_subset.Goals as goal

pub returns : goal.returns
returns g c = subset_decided _ c.args.self.bits c.args.other.bits (omega arith) (cc)
