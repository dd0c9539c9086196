-- Decimal numerals, read back. Assumes nothing.
use Rattle.std.specs.Prelude.{◌≡◌, ℕ, ◌+◌, ◌-◌, ◌*◌, ◌<◌, ◌≤◌, ◌≢◌, List, [], ◌∷◌, slice_index}
use Rattle.std.specs.List.{AllByRecursion}

-- the number that digits write, after the number so far
abbrev pub read_on : ℕ → List ℕ → ℕ
read_on n [] = n
read_on n (c ∷ cs) = read_on (10 * n + (c - 48)) cs

-- the bytes are digits that read back as the number, with no zero in front; 0 is one digit
pub record WritesNumber (n : ℕ) (ds : List ℕ) : Type 0 where
  pub digits : AllByRecursion (λ c. (48 ≤ c) × (c ≤ 57)) ds
  pub back : read_on 0 ds ≡ n
  pub leads : 0 < n → slice_index ds 0 ≢ 48
  pub zero : n ≡ 0 → ds ≡ 48 ∷ []
