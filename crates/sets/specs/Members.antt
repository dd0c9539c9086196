-- Sets of numbers as tests, and the set that the bits of a number stand for. Assumes nothing.
use Rattle.std.specs.Prelude.{◌≡◌, ℕ, ◌+◌, ◌-◌, ◌/◌, ◌%◌, ◌^◌, ◌<◌, ◌≤◌, Bool, true, false, not, ◌&&◌, ◌||◌, Some, None, Option, ◌==◌}
use Rattle.sets.specs.Counting.{one_of}

-- whether bit k of a number is 1
abbrev pub bit_set : ℕ → ℕ → Bool
bit_set n k = n / 2 ^ k % 2 == 1

-- the set that a number stands for: i, from 1 to 128, is in it where bit i - 1 is 1
unfoldable pub member_of : ℕ → ℕ → Bool
member_of bits i = one_of 128 i && bit_set bits (i - 1)

-- a set with one number more, if that is one of 1 to 128
abbrev pub and_also : (ℕ → Bool) → ℕ → ℕ → Bool
and_also S e i = S i || (one_of 128 i && i == e)

-- a set with one number less
abbrev pub all_but : (ℕ → Bool) → ℕ → ℕ → Bool
all_but S e i = S i && not (i == e)

-- each number of S is in T
abbrev pub PartOf : (ℕ → Bool) → (ℕ → Bool) → Type 0
PartOf S T = (i : ℕ) → S i ≡ true → T i ≡ true

-- x is the lowest number of S that is not below j
pub record Lowest (S : ℕ → Bool) (j x : ℕ) : Type 0 where
  pub from : j ≤ x
  pub in_it : S x ≡ true
  pub none_before : (k : ℕ) → j ≤ k → k < x → S k ≡ false

-- the lowest number of S that is not below j, or none if there is none
abbrev pub FirstFrom : (ℕ → Bool) → ℕ → Option ℕ → Type 0
FirstFrom S j None = (k : ℕ) → j ≤ k → S k ≡ false
FirstFrom S j (Some x) = Lowest S j x

-- bits as two words of 64 bits
pub record InWords (bits first second : ℕ) : Type 0 where
  pub low : (k : ℕ) → k < 64 → member_of bits (k + 1) ≡ bit_set first k
  pub high : (k : ℕ) → k < 64 → member_of bits (k + 65) ≡ bit_set second k
