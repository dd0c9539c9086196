use Rattle.std.proofs.Common.{◌-◌, ◌^◌, ap, ◌∙◌}
use lib.Bits.{bit_and}
use Rattle.sets.specs.Members.{member_of}
use Rattle.sets.proofs.Bitwise.{members_clear, without_none}
use Rattle.sets.proofs.numbers.Numbers.without.Goals as goal

pub returns-in_default : goal.returns-in_default
returns-in_default g c i = without_none c.args.self.bits c.args.number i c.in_default.ensures

pub returns : goal.returns
returns g c i =
    let o = c.in-Some.ensures in
    let m = members_clear c.args.self.bits c.args.number i o.0 in
    ap (λ n. member_of n i) (c.from_bits.ensures ∙ ap (λ b. bit_and c.args.self.bits (2 ^ 128 - 1 - b)) o.1) ∙ m
