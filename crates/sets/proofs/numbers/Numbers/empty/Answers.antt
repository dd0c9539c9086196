use Rattle.sets.proofs.Bitwise.{members_none}
use Rattle.sets.proofs.numbers.Numbers.empty.Goals as goal

pub returns : goal.returns
returns g c i = let e = c.from_bits.ensures in let z = members_none i in cc
