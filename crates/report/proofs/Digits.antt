-- Decimal digits, read back. Assumes nothing.
use Rattle.std.proofs.Common.{◌≡◌, ℕ, ◌^◌, ◌<◌, ◌≤◌, List, get_or, decimal, sym, ap, ◌∙◌, subst, arith, rules}
use Rattle.std.specs.List.{AllByRecursion}
use Rattle.std.proofs.lemmas.Fmt.{decimal_digit, first_decimal, digits_decimal, digits_value-decimal}
use Rattle.std.proofs.lemmas.Str.Parse.{IsNumeralModel, numerals_by_fold}
use Rattle.report.specs.Numerals.{read_on, WritesNumber}

own : IsNumeralModel (λ ds. AllByRecursion (λ c. (48 ≤ c) × (c ≤ 57)) ds) (read_on 0)
own = numerals_by_fold _ (search rules) read_on (search rules)

pub writes_number : (n : ℕ) (ds : List ℕ) → n < 2 ^ 32 → ds ≡ decimal n → WritesNumber n ds
writes_number n ds fits e =
    let wide : n < 2 ^ 64 = omega arith in
    record {
      digits = subst (AllByRecursion (λ c. (48 ≤ c) × (c ≤ 57))) (sym e) (digits_decimal own n wide);
      back = ap (read_on 0) e ∙ digits_value-decimal own n wide;
      leads = λ some z. omega (arith, first_decimal n some wide, sym (ap (λ l. get_or l 0 0) e) ∙ z);
      zero = λ z. e ∙ ap decimal z ∙ decimal_digit 0 (omega arith);
    }
