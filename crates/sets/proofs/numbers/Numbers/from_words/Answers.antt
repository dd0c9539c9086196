use Rattle.std.proofs.Common.{◌≡◌, ◌+◌, ◌*◌, ◌^◌, ◌<◌, mod-eq_of_lt, arith}
use lib.Bits.{or_shifted}
use Rattle.sets.proofs.Bitwise.{joined_words}
use Rattle.sets.proofs.numbers.Numbers.from_words.Goals as goal

pub returns : goal.returns
returns g c =
    let a = c.args.first in
    let b = c.args.second in
    let fa : a < 2 ^ 64 = omega arith in
    let fb : b * 2 ^ 64 < 2 ^ 128 = omega arith in
    let s = c.from_bits.ensures in
    let m = mod-eq_of_lt fb in
    let o = or_shifted b 64 a fa in
    let e : c.from_bits.result.bits ≡ b * 2 ^ 64 + a = cc in
    rw e (joined_words a b fa (omega arith))
