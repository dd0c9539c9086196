-- Counting: with, without and among the bits. Assumes nothing.
use Rattle.std.proofs.Common.{◌≡◌, ℕ, zero, suc, ◌-◌, ◌/◌, ◌%◌, ◌^◌, ◌<◌, ◌≤◌, cond, sym, ap, ◌∙◌, mod-eq_of_lt, arith}
use lib.Count.{ones}
use Rattle.std.proofs.lemmas.Bool.Decides.{nat_tests}
use Rattle.sets.specs.Counting.{how_many}
use Rattle.sets.specs.Members.{member_of}
use Rattle.sets.proofs.Digits.{bit_cases, ones_more}

place_counted : (n k : ℕ) → k < 128 → n / 2 ^ k % 2 ≡ cond (member_of n (suc k)) 1 0
unfolding member_of
place_counted n k h =
    let s : suc k - 1 ≡ k = omega arith in
    let b = bit_cases (n / 2 ^ k) in
    rw s (grind (arith, nat_tests))

low_counted : (n k : ℕ) → k ≤ 128 → ones (n % 2 ^ k) ≡ how_many k (member_of n)
unfolding how_many ones
low_counted n zero h = let z : n % 1 ≡ 0 = omega arith in ap ones z
low_counted n (suc k) h = ones_more n k ∙ omega (arith, low_counted n k (omega arith), place_counted n k (omega arith))

pub bits_counted : (n : ℕ) → n < 2 ^ 128 → ones n ≡ how_many 128 (member_of n)
bits_counted n f = ap ones (sym (mod-eq_of_lt f)) ∙ low_counted n 128 (omega arith)
