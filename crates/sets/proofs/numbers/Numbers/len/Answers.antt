use Rattle.std.proofs.Common.{arith}
use Rattle.sets.proofs.Counts.{bits_counted}
use Rattle.sets.proofs.numbers.Numbers.len.Goals as goal

pub returns : goal.returns
returns g c = let b = bits_counted c.args.self.bits (omega arith) in cc
