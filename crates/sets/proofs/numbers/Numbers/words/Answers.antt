use Rattle.std.proofs.Common.{arith}
use lib.Bits.{and_mask}
use Rattle.sets.proofs.Bitwise.{split_words}
use Rattle.sets.proofs.numbers.Numbers.words.Goals as goal

pub returns : goal.returns
returns g c = let n = c.args.self.bits in let m = and_mask n 64 in split_words n _ _ (omega arith) (cc) (cc)
