-- Lists of numbers that stand one behind the other. Assumes nothing.
use Rattle.std.specs.Prelude.{◌≡◌, ℕ, ◌+◌, ◌<◌, ◌≤◌, Bool, List, length, ◌==◌, slice_index_or, slice_range}
use Rattle.std.specs.List.{filter, list_any, range_with_len}

-- whether x stands in a list
abbrev pub stands_in : List ℕ → ℕ → Bool
stands_in xs x = list_any (λ y. y == x) xs

-- the numbers of S from 1 to n, rising
unfoldable pub numbers_to : ℕ → (ℕ → Bool) → List ℕ
numbers_to n S = filter S (range_with_len 1 n)

-- where list i, counted from 0, begins; behind the last list, where the cells end
abbrev pub list_start : List ℕ → List ℕ → ℕ → ℕ
list_start starts cells i = slice_index_or starts i (length cells)

-- list i, counted from 0
abbrev pub list_at : List ℕ → List ℕ → ℕ → List ℕ
list_at starts cells i = slice_range cells (list_start starts cells i) (list_start starts cells (i + 1))

-- each list ends where it begins or behind that, and within the cells
abbrev pub ListsOrdered : List ℕ → List ℕ → Type 0
ListsOrdered starts cells =
    (i : ℕ) → i < length starts → (list_start starts cells i ≤ list_start starts cells (i + 1)) × (list_start starts cells (i + 1) ≤ length cells)

-- a list that is the numbers which stand in it, from 1 to 128 and rising
abbrev pub NumbersInOrder : List ℕ → Type 0
NumbersInOrder xs = xs ≡ numbers_to 128 (stands_in xs)
