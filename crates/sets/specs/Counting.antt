-- Numbers from 1 on, and how many of them pass a test. Assumes nothing.
use Rattle.std.specs.Prelude.{ℕ, zero, suc, ◌+◌, Bool, cond, ◌&&◌, nat_le}

-- one of the numbers 1 to k
abbrev pub one_of : ℕ → ℕ → Bool
one_of k i = nat_le 1 i && nat_le i k

-- how many of the numbers 1 to k pass
unfoldable pub how_many : ℕ → (ℕ → Bool) → ℕ
how_many zero S = zero
how_many (suc k) S = how_many k S + cond (S (suc k)) 1 0

-- what the numbers 1 to k give together
unfoldable pub sum_over : ℕ → (ℕ → ℕ) → ℕ
sum_over zero f = zero
sum_over (suc k) f = sum_over k f + f (suc k)
