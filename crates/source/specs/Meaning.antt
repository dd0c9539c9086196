-- What a source stands for. Assumes nothing.
use Rattle.std.specs.Prelude.{◌≡◌, ℕ, ◌≤◌, Bool, true, false, ◌&&◌, None, Option}
use Rattle.std.proofs.lemmas.Bool.{and_parts}
use Rattle.sets.specs.Counting.{one_of, how_many, sum_over}
use Rattle.sets.specs.Members.{FirstFrom}

-- m equations and n unknowns, both numbered from 1, and which equation holds which unknown
pub record Meaning : Type 0 where
  pub m : ℕ
  pub n : ℕ
  pub holds : ℕ → ℕ → Bool

-- whether i is the number of an equation and j that of an unknown
abbrev pub numbered : Meaning → ℕ → ℕ → Bool
numbered M i j = one_of M.m i && one_of M.n j

-- What is true of every source.
pub record WithinLimits (M : Meaning) : Type 0 where
  pub few_equations : M.m ≤ 128
  pub few_unknowns : M.n ≤ 128
  pub within : (i j : ℕ) → M.holds i j ≡ true → numbered M i j ≡ true

-- the pairs of equations 1 to k: the unknowns of each counted, and the counts summed
unfoldable pub pairs_to : Meaning → ℕ → ℕ
pairs_to M k = sum_over k (λ i. how_many M.n (M.holds i))

-- the number of pairs
abbrev pub pair_count : Meaning → ℕ
pair_count M = pairs_to M M.m

-- The next unknown of equation i from j on: none for a number that does not exist, else the lowest that i holds and that is not below j.
pub record NextUnknown (M : Meaning) (i j : ℕ) (r : Option ℕ) : Type 0 where
  pub outside : numbered M i j ≡ false → r ≡ None
  pub lowest : numbered M i j ≡ true → FirstFrom (M.holds i) j r

-- a relation cut down to the numbers 1 to m and 1 to n
abbrev pub clipped : ℕ → ℕ → (ℕ → ℕ → Bool) → Meaning
clipped m n f = record { m = m; n = n; holds = λ i j. (one_of m i && one_of n j) && f i j }

pub clipped_bounded : (m n : ℕ) (f : ℕ → ℕ → Bool) → m ≤ 128 → n ≤ 128 → WithinLimits (clipped m n f)
clipped_bounded m n f a b =
    record { few_equations = a; few_unknowns = b; within = λ i j h. (and_parts (one_of m i && one_of n j) (f i j) h).0 }
