-- Single bits of a number. Assumes nothing.
use Rattle.std.proofs.Common.{◌≡◌, ℕ, suc, ◌+◌, ◌*◌, ◌/◌, ◌%◌, ◌^◌, ◌<◌, cond, eqb, ◌⊎◌, refl, ap, ◌∙◌, ⊎_elim, mod-lt, arith, pow_pos}
use lib.Count.{ones, ones_cat}
use lib.Pow.{mod-pow-add}
use Rattle.std.proofs.lemmas.Bool.{cases_eq, eq-eqb, ne_eqb}
use Rattle.std.proofs.lemmas.Nat.Bits.{bit_at-pow_same, bit_at-pow_other}

-- a bit is 0 or 1
pub bit_cases : (n : ℕ) → (n % 2 ≡ 0) ⊎ (n % 2 ≡ 1)
bit_cases n = let h : n % 2 < 2 = mod-lt n {m = 2} (omega arith) in grind arith

-- a power of two has one bit
pub pow_bit : (j k : ℕ) → 2 ^ j / 2 ^ k % 2 ≡ cond (eqb j k) 1 0
pow_bit j k =
    ⊎_elim
    (λ (e : j ≡ k). rw (eq-eqb j k e) (ap (λ i. 2 ^ i / 2 ^ k % 2) e ∙ bit_at-pow_same k))
    (λ (e : j ≡ k → ⊥). rw (ne_eqb j k e) (bit_at-pow_other j k (λ q. e (omega arith))))
    (cases_eq j k)

-- the ones among the lowest bits
pub ones_more : (n k : ℕ) → ones (n % 2 ^ suc k) ≡ ones (n % 2 ^ k) + n / 2 ^ k % 2
unfolding ones
ones_more n k =
    let s : suc k ≡ 1 + k = omega arith in
    let x : n % 2 ^ (1 + k) ≡ (n / 2 ^ k % 2) * 2 ^ k + n % 2 ^ k = mod-pow-add n 1 k in
    let c : ones ((n / 2 ^ k % 2) * 2 ^ k + n % 2 ^ k) ≡ ones (n / 2 ^ k % 2) + ones (n % 2 ^ k) = ones_cat k (n / 2 ^ k % 2) (n % 2 ^ k) (mod-lt n (pow_pos k)) in
    let b : ones (n / 2 ^ k % 2) ≡ n / 2 ^ k % 2 = ⊎_elim (λ e. rw e refl) (λ e. rw e refl) (bit_cases (n / 2 ^ k)) in
    rw s (ap ones x ∙ c ∙ omega arith)
