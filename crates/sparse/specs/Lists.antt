-- What the sparse source stands for. Assumes nothing.
use Rattle.std.specs.Prelude.{ℕ, ◌-◌, Bool, List, length, slice_range}
use Rattle.std.proofs.Common.{arith}
use Rattle.source.specs.Meaning.{Meaning, WithinLimits, clipped, clipped_bounded}
use Rattle.sparse.specs.declared.lists.Sparse.{Sparse}
use Rattle.sparse.specs.Cells.{stands_in, list_start}

-- where the list of equation i ends and begins
abbrev pub end_of : Sparse → ℕ → ℕ
end_of s i = list_start s.starts s.cells i

abbrev pub start_of : Sparse → ℕ → ℕ
start_of s i = end_of s (i - 1)

-- the list of equation i
abbrev pub list_of : Sparse → ℕ → List ℕ
list_of s i = slice_range s.cells (start_of s i) (end_of s i)

-- whether j is in the list of equation i
abbrev pub in_list : Sparse → ℕ → ℕ → Bool
in_list s i j = stands_in (list_of s i) j

abbrev pub sparse_means : Sparse → Meaning
sparse_means s = clipped (length s.starts) s.unknowns (in_list s)

pub sparse_bounded : (s : Sparse) → WithinLimits (sparse_means s)
sparse_bounded s = clipped_bounded (length s.starts) s.unknowns (in_list s) (omega (arith, s.few.0)) s.few.1
