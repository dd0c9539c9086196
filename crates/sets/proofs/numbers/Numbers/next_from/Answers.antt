use Rattle.std.proofs.Common.{◌≡◌, ◌-◌, ◌/◌, ◌^◌, sym, ap, ◌∙◌, arith}
use Rattle.std.proofs.lemmas.Nat.{shr_le}
use Rattle.std.proofs.lemmas.Bool.Decides.{nat_tests}
use Rattle.sets.specs.Members.{member_of}
use Rattle.sets.proofs.Bitwise.{none_from, first_from}
use Rattle.std.proofs.lemmas.Nat.Bits.{bit_at-trailing_zeros}
use mir.Syntax.{w128}
use Rattle.sets.proofs.numbers.Numbers.next_from.Goals as goal

pub returns-then-number-gt-HIGHEST : goal.returns-then-number-gt-HIGHEST
unfolding member_of
returns-then-number-gt-HIGHEST g c k h = grind (arith, nat_tests)

pub returns-then-rest-eq0 : goal.returns-then-rest-eq0
returns-then-rest-eq0 g c =
    let n = c.args.self.bits in
    none_from n c.args.number (ap (λ b. n / 2 ^ b) (sym c.saturating_sub-below.ensures) ∙ c.if-rest-eq0.true)

pub returns : goal.returns
returns g c =
    let n = c.args.self.bits in
    let s : c.saturating_sub-below.result ≡ c.args.number - 1 = c.saturating_sub-below.ensures in
    let l = shr_le n (c.args.number - 1) in
    let nz = rw s at c.if-rest-eq0.false in
    let t = bit_at-trailing_zeros w128 (n / 2 ^ (c.args.number - 1)) (omega arith) (omega arith) in
    (simp s (first_from n c.args.number _ _ (omega arith) t (omega arith)))
