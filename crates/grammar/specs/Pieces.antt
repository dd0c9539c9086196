-- Bytes cut at every separator. Assumes nothing.
use Rattle.std.specs.Prelude.{◌≡◌, ◌≢◌, ℕ, ◌<◌, ◌≤◌, cond, List, [], ◌∷◌, length, ◌==◌, slice_index}
use Rattle.std.specs.List.{onto_first}

-- The pieces between separators. `last` says what follows the last separator where the bytes end there:
-- one empty piece, or none.
abbrev pub cut_at : ℕ → List (List ℕ) → List ℕ → List (List ℕ)
cut_at separator last [] = last
cut_at separator last (b ∷ bs) = cond (b == separator) ([] ∷ cut_at separator last bs) (onto_first b (cut_at separator last bs))

-- the first n of the bytes are no separator, and the next one is, unless they are all
pub record Front (separator n : ℕ) (bs : List ℕ) : Type 0 where
  pub within : n ≤ length bs
  pub before : (k : ℕ) → k < n → slice_index bs k ≢ separator
  pub found : n < length bs → slice_index bs n ≡ separator
