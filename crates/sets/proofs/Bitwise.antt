-- What the operations on bits do to the set that they stand for. Assumes nothing.
use Rattle.std.proofs.Common.{◌≡◌, ℕ, zero, suc, ◌+◌, ◌-◌, ◌*◌, ◌/◌, ◌%◌, ◌^◌, ◌<◌, ◌≤◌, Bool, true, false, eqb, Decides, sym, refl, ap, ◌∙◌, ⊎_elim, lt_of_le_of_lt, arith, shr-shr}
use lib.Bits.{bit_and, bit_or, and_mask, and_le_l}
use lib.Pow.{pow-lt, high, low}
use mir.Syntax.{w128}
use Rattle.std.proofs.lemmas.Bool.{cases_lt, eq-eqb, eqb-true}
use Rattle.std.proofs.lemmas.Bool.Decides.{nat_tests}
use Rattle.std.proofs.lemmas.Nat.Bits.{bit_at_and, bit_at_or, bit_at_not, bit_at-zero, bit_at_above, bit_at_cat_low, same_from_bits_below}
use Rattle.sets.specs.Counting.{one_of}
use Rattle.sets.specs.Members.{member_of, and_also, all_but, PartOf, Lowest, InWords}
use Rattle.sets.proofs.Digits.{bit_cases, pow_bit}

pub members_none : (i : ℕ) → member_of 0 i ≡ false
unfolding member_of
members_none i = let z = bit_at-zero (i - 1) in grind (arith, nat_tests)

-- outside 1 to 128 nothing is in
pub members_one_of : (n i : ℕ) → member_of n i ≡ true → one_of 128 i ≡ true
unfolding member_of
members_one_of n i h = grind (arith, nat_tests)

pub members_outside : (n i : ℕ) → one_of 128 i ≡ false → member_of n i ≡ false
unfolding member_of
members_outside n i h = grind (arith, nat_tests)

-- and nothing outside is taken away
pub without_none : (n e i : ℕ) → one_of 128 e ≡ false → member_of n i ≡ all_but (member_of n) e i
unfolding member_of
without_none n e i h = grind (arith, nat_tests)

-- one bit, as code asks for it
pub members_asked : (n i : ℕ) → 1 ≤ i → i ≤ 128 → eqb (bit_and (n / 2 ^ (i - 1)) 1) 1 ≡ member_of n i
unfolding member_of
members_asked n i a b = let m : bit_and (n / 2 ^ (i - 1)) 1 ≡ n / 2 ^ (i - 1) % 2 = and_mask (n / 2 ^ (i - 1)) 1 in grind (arith, nat_tests)

pub members_or : (n e i : ℕ) → one_of 128 e ≡ true → member_of (bit_or n (2 ^ (e - 1))) i ≡ and_also (member_of n) e i
unfolding member_of
members_or n e i h =
    let o = bit_at_or n (2 ^ (e - 1)) (i - 1) in
    let p = pow_bit (e - 1) (i - 1) in
    let b = bit_cases (n / 2 ^ (i - 1)) in
    grind (arith, nat_tests)

pub members_clear : (n e i : ℕ) → one_of 128 e ≡ true → member_of (bit_and n (2 ^ 128 - 1 - 2 ^ (e - 1))) i ≡ all_but (member_of n) e i
unfolding member_of
members_clear n e i h =
    let p = pow_bit (e - 1) (i - 1) in
    let b = bit_cases (n / 2 ^ (i - 1)) in
    ⊎_elim
    (λ (l : i - 1 < 128).
    let a = bit_at_and n (2 ^ 128 - 1 - 2 ^ (e - 1)) (i - 1) in
    let k : e - 1 < 128 = grind (arith, nat_tests) in
    let c = bit_at_not w128 (2 ^ (e - 1)) (i - 1) (pow-lt k) l in
    grind (arith, nat_tests))
    (λ (l : 128 ≤ i - 1). grind (arith, nat_tests))
    (cases_lt (i - 1) 128)

-- the bits of what a shift leaves
shifted_bit : (n b j : ℕ) → n / 2 ^ b / 2 ^ j % 2 ≡ n / 2 ^ (b + j) % 2
shifted_bit n b j = ap (λ x. x % 2) (shr-shr n b j)

pub none_from : (n j : ℕ) → n / 2 ^ (j - 1) ≡ 0 → (k : ℕ) → j ≤ k → member_of n k ≡ false
unfolding member_of
none_from n j e k h =
    let s : (j - 1) + (k - 1 - (j - 1)) ≡ k - 1 = omega arith in
    let z : 0 / 2 ^ (k - 1 - (j - 1)) % 2 ≡ 0 = bit_at-zero (k - 1 - (j - 1)) in
    let t : n / 2 ^ (j - 1) / 2 ^ (k - 1 - (j - 1)) % 2 ≡ 0 = rw e z in
    let u : n / 2 ^ (k - 1) % 2 ≡ 0 = ap (λ x. n / 2 ^ x % 2) (sym s) ∙ sym (shifted_bit n (j - 1) (k - 1 - (j - 1))) ∙ t in
    grind (arith, nat_tests)

lowest_in : (n j t : ℕ) → n < 2 ^ 128 → n / 2 ^ (j - 1 + t) % 2 ≡ 1 → member_of n (j - 1 + t + 1) ≡ true
unfolding member_of
lowest_in n j t f e =
    let s : j - 1 + t + 1 - 1 ≡ j - 1 + t = omega arith in
    let b : j - 1 + t < 128 =
    ⊎_elim (λ (h : j - 1 + t < 128). h) (λ (h : 128 ≤ j - 1 + t). absurd (omega (arith, bit_at_above n 128 (j - 1 + t) f h))) (cases_lt (j - 1 + t) 128) in
    rw s (grind (arith, nat_tests))

lowest_before : (n j t : ℕ) → ((i : ℕ) → i < t → n / 2 ^ (j - 1) / 2 ^ i % 2 ≡ 0) → (k : ℕ) → j ≤ k → k < j - 1 + t + 1 → member_of n k ≡ false
unfolding member_of
lowest_before n j t h zero a b = refl
lowest_before n j t h (suc k) a b =
    let s : (j - 1) + (k - (j - 1)) ≡ k = omega arith in
    let p : suc k - 1 ≡ k = omega arith in
    let u : n / 2 ^ k % 2 ≡ 0 = ap (λ x. n / 2 ^ x % 2) (sym s) ∙ sym (shifted_bit n (j - 1) (k - (j - 1))) ∙ h (k - (j - 1)) (omega arith) in
    rw p (grind (arith, nat_tests))

pub first_from : (n j t x : ℕ) → n < 2 ^ 128 → (t < 128) × (n / 2 ^ (j - 1) / 2 ^ t % 2 ≡ 1) × ((i : ℕ) → i < t → n / 2 ^ (j - 1) / 2 ^ i % 2 ≡ 0) → x ≡ j - 1 + t + 1
    → Lowest (member_of n) j x
first_from n j t x f l e =
    rw e
    (record {
      from = omega arith;
      in_it = lowest_in n j t f (sym (shifted_bit n (j - 1) t) ∙ l.1);
      none_before = lowest_before n j t l.2;
    })

-- a set that its common part with another one is equal to lies within that one
and_part : (a b : ℕ) → bit_and a b ≡ a → PartOf (member_of a) (member_of b)
unfolding member_of
and_part a b e i h =
    let m = bit_at_and a b (i - 1) in
    let s : bit_and a b / 2 ^ (i - 1) % 2 ≡ a / 2 ^ (i - 1) % 2 = ap (λ x. x / 2 ^ (i - 1) % 2) e in
    let c = bit_cases (b / 2 ^ (i - 1)) in
    grind (arith, nat_tests)

part_bit : (a b : ℕ) → PartOf (member_of a) (member_of b) → (j : ℕ) → j < 128 → bit_and a b / 2 ^ j % 2 ≡ a / 2 ^ j % 2
unfolding member_of
part_bit a b h j l =
    let m = bit_at_and a b j in
    let c = bit_cases (a / 2 ^ j) in
    let d = bit_cases (b / 2 ^ j) in
    let s : suc j - 1 ≡ j = omega arith in
    let p = rw s at (h (suc j)) in
    ⊎_elim (λ e. omega arith) (λ e. ⊎_elim (λ z. let q = p (grind (arith, nat_tests)) in grind (arith, nat_tests)) (λ o. omega arith) d) c

part_and : (a b : ℕ) → a < 2 ^ 128 → PartOf (member_of a) (member_of b) → bit_and a b ≡ a
part_and a b f h =
    same_from_bits_below 128 (bit_and a b) a (lt_of_le_of_lt (and_le_l a b) f) f (part_bit a b h)

pub subset_decided : (r : Bool) (a b : ℕ) → a < 2 ^ 128 → r ≡ eqb (bit_and a b) a → Decides r (PartOf (member_of a) (member_of b))
subset_decided r a b f s = (λ e. and_part a b (eqb-true _ _ (sym s ∙ e)), λ h. s ∙ eq-eqb _ _ (part_and a b f h))

pub split_words : (n first second : ℕ) → n < 2 ^ 128 → first ≡ n % 2 ^ 64 → second ≡ n / 2 ^ 64 → InWords n first second
unfolding member_of
split_words n first second f x y =
    rw (x, y)
    (record {
      low =
          λ k h.
          let s : k + 1 - 1 ≡ k = omega arith in
          let d : n / 2 ^ 64 * 2 ^ 64 + n % 2 ^ 64 ≡ n = omega arith in
          let l = rw d at (bit_at_cat_low (n / 2 ^ 64) 64 (n % 2 ^ 64) k h) in
          rw s (grind (arith, nat_tests));
      high =
          λ k h.
          let s : k + 65 - 1 ≡ 64 + k = omega arith in
          let l = shifted_bit n 64 k in
          rw s (grind (arith, nat_tests));
    })

pub joined_words : (first second : ℕ) → first < 2 ^ 64 → second < 2 ^ 64 → InWords (second * 2 ^ 64 + first) first second
joined_words a b f g =
    let n = b * 2 ^ 64 + a in
    split_words n a b (omega arith) (sym (low b 64 f)) (sym (high b 64 f))

pub members_few : (n i : ℕ) → member_of n i ≡ true → i ≤ 128
members_few n i h = let o = members_one_of n i h in grind (arith, nat_tests)
