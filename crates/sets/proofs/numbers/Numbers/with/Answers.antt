use Rattle.std.proofs.Common.{ap, ◌∙◌}
use lib.Bits.{bit_or}
use Rattle.sets.specs.Members.{member_of}
use Rattle.sets.proofs.Bitwise.{members_or}
use Rattle.sets.proofs.numbers.Numbers.with.Goals as goal

pub returns : goal.returns
returns g c i =
    let o = c.in-Some.ensures in
    let m = members_or c.args.self.bits c.args.number i o.0 in
    ap (λ n. member_of n i) (c.from_bits.ensures ∙ ap (bit_or c.args.self.bits) o.1) ∙ m
