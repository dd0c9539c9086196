use Rattle.std.proofs.Common.{arith}
use Rattle.std.proofs.lemmas.Bool.Decides.{nat_tests}
use Rattle.sets.specs.Members.{member_of}
use Rattle.sets.proofs.Bitwise.{members_asked}
use Rattle.sets.proofs.numbers.Numbers.holds.Goals as goal

pub returns-in_default : goal.returns-in_default
unfolding member_of
returns-in_default g c = grind (arith, nat_tests)

pub returns-then-place-ge-HIGHEST : goal.returns-then-place-ge-HIGHEST
unfolding member_of
returns-then-place-ge-HIGHEST g c = grind (arith, nat_tests)

pub returns : goal.returns
returns g c = let o = c.in-Some.ensures in rw o.1 (members_asked c.args.self.bits c.args.number o.0 (omega arith))
