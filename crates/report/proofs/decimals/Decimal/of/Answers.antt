use Rattle.std.proofs.Common.{◌≡◌, drop, decimal, ap, ◌∙◌, append-nil, arith, rules}
use Rattle.std.proofs.lemmas.Fmt.{decimal_nonempty, length-decimal-le}
use Rattle.report.proofs.Digits.{writes_number}
use Rattle.report.proofs.decimals.Decimal.of.Goals as goal

pub write_digits-start-requires : goal.write_digits-start-requires
write_digits-start-requires c = (length-decimal-le 10 c.from.result (omega arith) (omega (arith, c.from.ensures, c.ranges.n.fits)) (omega arith), omega arith)

pub returns : goal.returns
returns c =
    let e : drop c.write_digits-start.result c.write_digits-start.new.buf ≡ decimal c.args.n = c.write_digits-start.ensures.written ∙ append-nil (decimal c.from.result) ∙ ap decimal c.from.ensures in
    record { value = e; reads = writes_number c.args.n _ (omega arith) e }

pub invariant_of-result : goal.invariant_of-result
invariant_of-result c = record { within = (omega (arith, c.write_digits-start.ensures.start, decimal_nonempty c.from.result (omega arith)), search rules) }
